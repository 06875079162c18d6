-- Lists with one element exchanged, and how often a page stands on a list.
use Rattle.std.proofs.Common.{◌≡◌, ℕ, zero, suc, ◌+◌, ◌<◌, ◌≤◌, ◌==◌, Bool, true, false, ◌||◌, cond, List, [], ◌∷◌, map, length, get_or, Some, None, refl, sym, ◌∙◌, ap, subst, arith}
use Rattle.std.specs.Prelude.{All, slice_get, slice_set}
use Rattle.std.specs.Option.{option_map}
use Rattle.isp_base.specs.Lists.{times}
use Rattle.isp_page.specs.State.{is_among}

not_apart : (a b : ℕ) → a ≡ b → (a == b) ≡ false → ⊥
not_apart a b same apart = let is : (a == b) ≡ true = grind (arith, same) in let bad : true ≡ false = sym is ∙ apart in cc

module _ {X : Type 0} where
  pub get_set : (xs : List X) (n : ℕ) (x y : X) → slice_get xs n ≡ Some x → slice_get (slice_set xs n y) n ≡ Some y
  get_set [] n x y is = let bad : None ≡ Some x = is in cc
  get_set (z ∷ xs) zero x y is = refl
  get_set (z ∷ xs) (suc n) x y is = get_set xs n x y is

  pub get_other : (xs : List X) (n m : ℕ) (y : X) → (n ≡ m → ⊥) → slice_get (slice_set xs n y) m ≡ slice_get xs m
  get_other [] n m y differ = refl
  get_other (z ∷ xs) zero zero y differ = absurd (differ refl)
  get_other (z ∷ xs) zero (suc m) y differ = refl
  get_other (z ∷ xs) (suc n) zero y differ = refl
  get_other (z ∷ xs) (suc n) (suc m) y differ = get_other xs n m y (λ same. differ (ap suc same))

  pub set_set : (xs : List X) (n : ℕ) (x y : X) → slice_set (slice_set xs n x) n y ≡ slice_set xs n y
  set_set [] n x y = refl
  set_set (z ∷ xs) zero x y = refl
  set_set (z ∷ xs) (suc n) x y = λ i. z ∷ set_set xs n x y i

  some_same : (x y : X) → Some x ≡ Some y → x ≡ y
  some_same x y same = cc

  pub set_get : (xs : List X) (n : ℕ) (x : X) → slice_get xs n ≡ Some x → slice_set xs n x ≡ xs
  set_get [] n x is = refl
  set_get (z ∷ xs) zero x is = λ i. some_same x z (sym is) i ∷ xs
  set_get (z ∷ xs) (suc n) x is = λ i. z ∷ set_get xs n x is i

  pub length_set : (xs : List X) (n : ℕ) (x : X) → length (slice_set xs n x) ≡ length xs
  length_set [] n x = refl
  length_set (z ∷ xs) zero x = refl
  length_set (z ∷ xs) (suc n) x = ap suc (length_set xs n x)

  pub get_below : (xs : List X) (n : ℕ) (x : X) → slice_get xs n ≡ Some x → n < length xs
  get_below [] n x is = let bad : None ≡ Some x = is in cc
  get_below (z ∷ xs) zero x is = omega arith
  get_below (z ∷ xs) (suc n) x is = let rest = get_below xs n x is in omega (arith, rest)

  -- what is said of the others, and of the one that is set
  pub each_set : (P : ℕ → X → Type 0) (xs : List X) (n : ℕ) (x y : X) → slice_get xs n ≡ Some x → P n y → ((m : ℕ) (z : X) → (n ≡ m → ⊥) → slice_get xs m ≡ Some z → P m z)
      → (m : ℕ) (z : X) → slice_get (slice_set xs n y) m ≡ Some z → P m z
  each_set P xs n x y is here others m z got = by (n == m) refl
    where
      by : (b : Bool) → (n == m) ≡ b → P m z
      by true same =
          let at : n ≡ m = grind (arith, same) in
          let now : slice_get (slice_set xs n y) n ≡ Some z = ap (λ (k : ℕ). slice_get (slice_set xs n y) k) at ∙ got in
          let z_is : y ≡ z = some_same y z (sym (get_set xs n x y is) ∙ now) in
          subst (λ (k : ℕ). P k z) at (subst (λ (w : X). P n w) z_is here)
      by false apart =
          let differ : n ≡ m → ⊥ = λ same. not_apart n m same apart in
          others m z differ (sym (get_other xs n m y differ) ∙ got)

module _ {X Y : Type 0} (f : X → Y) where
  pub get_map : (xs : List X) (n : ℕ) → slice_get (map f xs) n ≡ option_map f (slice_get xs n)
  get_map [] n = refl
  get_map (x ∷ xs) zero = refl
  get_map (x ∷ xs) (suc n) = get_map xs n

  pub map_set : (xs : List X) (n : ℕ) (y : X) → map f (slice_set xs n y) ≡ slice_set (map f xs) n (f y)
  map_set [] n y = refl
  map_set (x ∷ xs) zero y = refl
  map_set (x ∷ xs) (suc n) y = λ i. f x ∷ map_set xs n y i

  pub map_set_same : (xs : List X) (n : ℕ) (x y : X) → slice_get xs n ≡ Some x → f y ≡ f x → map f (slice_set xs n y) ≡ map f xs
  map_set_same xs n x y is same =
      map_set xs n y ∙ (λ i. slice_set (map f xs) n (same i)) ∙ set_get (map f xs) n (f x) (get_map xs n ∙ ap (option_map f) is)

-- ---- pages

-- how much an element counts
abbrev pub counted : Bool → ℕ
counted b = cond b 1 0

pub page_itself : (n : ℕ) → (n == n) ≡ true
page_itself n = grind arith

times_at : (xs : List ℕ) (k d : ℕ) → k < length xs → 1 ≤ times (get_or xs k d) xs
times_at [] k d h = absurd (omega (arith, h))
times_at (x ∷ xs) zero d h = let one : counted (x == x) ≡ 1 = ap counted (page_itself x) in omega (arith, one)
times_at (x ∷ xs) (suc k) d h = let rest = times_at xs k d (omega (arith, h)) in omega (arith, rest)

pub all_of : (P : ℕ → Type 0) (xs : List ℕ) → ((page : ℕ) → 1 ≤ times page xs → P page) → All P xs
all_of P xs each k d h = each (get_or xs k d) (times_at xs k d h)

pub not_among : (page : ℕ) (xs : List ℕ) → times page xs ≡ 0 → is_among page xs ≡ false
not_among page [] none = refl
not_among page (x ∷ xs) none = by (x == page) none (not_among page xs)
  where
    by : (b : Bool) → counted b + times page xs ≡ 0 → (times page xs ≡ 0 → is_among page xs ≡ false) → (b || is_among page xs) ≡ false
    by true sum rest = absurd (omega (arith, sum))
    by false sum rest = rest (omega (arith, sum))
