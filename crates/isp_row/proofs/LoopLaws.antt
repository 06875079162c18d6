-- Writing value by value.
use Rattle.std.proofs.Common.{◌≡◌, ℕ, ◌+◌, ◌<◌, ◌≤◌, List, [], ◌∷◌, ◌++◌, take, length, get_or, sym, ap, subst, ◌∙◌, arith}
use Rattle.std.specs.Prelude.{All}
use Rattle.std.specs.List.{flat_map, sum_by}
use Rattle.std.proofs.lemmas.List.{flat_map_more, take_more}
use Rattle.std.proofs.lemmas.List.Sums.{get_or-le-sum_by}
use Rattle.std.proofs.lemmas.List.Elements.{All-append, All-cons, All-nil}

module _ {X : Type 0} where
  next_taken : (xs : List X) (i : ℕ) (x : X) → i < length xs → x ≡ get_or xs i x → take (i + 1) xs ≡ take i xs ++ x ∷ []
  next_taken xs i x less is = take_more xs i x less ∙ ap (λ (y : X). take i xs ++ y ∷ []) (sym is)

  -- all so far, and the next one
  pub all_more : (P : X → Type 0) (xs : List X) (i : ℕ) (x : X) → i < length xs → x ≡ get_or xs i x → P x → All P (take i xs) → All P (take (i + 1) xs)
  all_more P xs i x less is holds all = subst (λ (ys : List X). All P ys) (sym (next_taken xs i x less is)) (All-append P (take i xs) (x ∷ []) all (All-cons P x [] holds (All-nil P)))

  pub put_more : (f : X → List ℕ) (out now then : List ℕ) (xs : List X) (i : ℕ) (x : X) → i < length xs → x ≡ get_or xs i x → now ≡ out ++ flat_map f (take i xs) → then ≡ now ++ f x → then ≡ out ++ flat_map f (take (i + 1) xs)
  put_more f out now then xs i x less is so_far put_is =
      put_is ∙ ap (λ (l : List ℕ). l ++ f x) so_far ∙ flat_map_more f out (take i xs) x ∙ ap (λ (ys : List X). out ++ flat_map f ys) (sym (next_taken xs i x less is))

  -- each is within the sum
  pub smaller : (f : X → ℕ) (xs : List X) (i : ℕ) (x : X) → i < length xs → x ≡ get_or xs i x → sum_by f xs ≤ 8000 → f x ≤ 8000
  smaller f xs i x less is few = let one = get_or-le-sum_by f xs i x less in let same = ap f is in omega (arith, one, same, few)
