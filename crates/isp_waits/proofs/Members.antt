-- Members of lists, filters and least members.
use Rattle.std.proofs.Common.{◌≡◌, ◌∙◌, ◌<◌, ◌≤◌, ◌⊎◌, Bool, true, false, List, [], ◌∷◌, ℕ, refl, sym, ap, min, filter, fold, unwrap_or, nat_eq, arith, ⊎_elim, eq-eqb, zero, suc, length, get_or}
use Rattle.std.specs.List.{All, list_any, reduce}
use Rattle.std.proofs.lemmas.Bool.{false≢true, or_cases, or_left, or_right, eqb-true, cond-true, cond-false, cases_Bool}
use Rattle.isp_waits.specs.Graphs.{has}

-- a test passes where a member passes it
pub any_at : (p : ℕ → Bool) (xs : List ℕ) (x : ℕ) → has xs x ≡ true → p x ≡ true → list_any p xs ≡ true
any_at p [] x h e = absurd (false≢true h)
any_at p (y ∷ ys) x h e =
    ⊎_elim (λ here. or_left (p y) (list_any p ys) (ap p (sym (eqb-true x y here)) ∙ e))
    (λ there. or_right (p y) (list_any p ys) (any_at p ys x there e)) (or_cases (nat_eq x y) (has ys x) h)

pub has-first : (x : ℕ) (xs : List ℕ) → has (x ∷ xs) x ≡ true
has-first x xs = or_left (nat_eq x x) (has xs x) (eq-eqb x x refl)

-- the element at a place is a member
pub has_at : (xs : List ℕ) (i d : ℕ) → i < length xs → has xs (get_or xs i d) ≡ true
has_at [] i d lt = absurd (omega arith)
has_at (x ∷ xs) zero d lt = has-first x xs
has_at (x ∷ xs) (suc i) d lt = or_right (nat_eq (get_or xs i d) x) (has xs (get_or xs i d)) (has_at xs i d (omega arith))

-- what holds of each member holds of all
pub all_members : (P : ℕ → Type 0) (xs : List ℕ) → ((x : ℕ) → has xs x ≡ true → P x) → All P xs
all_members P xs each = λ k d lt. each (get_or xs k d) (has_at xs k d lt)

-- a test that passes in a list passes at a member
some_passes : (p : ℕ → Bool) (xs : List ℕ) → list_any p xs ≡ true → (x : ℕ) × (has xs x ≡ true) × (p x ≡ true)
some_passes p [] h = absurd (false≢true h)
some_passes p (x ∷ xs) h =
    ⊎_elim (λ here. (x, has-first x xs, here)) (λ there. let one = some_passes p xs there in (one.0, or_right (nat_eq one.0 x) (has xs one.0) one.1, one.2))
    (or_cases (p x) (list_any p xs) h)

-- a member of what a filter leaves is one of the list that passes
pub has_filter : (p : ℕ → Bool) (xs : List ℕ) (b : ℕ) → has (filter p xs) b ≡ true → (has xs b ≡ true) × (p b ≡ true)
has_filter p [] b h = absurd (false≢true h)
has_filter p (x ∷ xs) b h =
    let rest : has (filter p xs) b ≡ true → (has (x ∷ xs) b ≡ true) × (p b ≡ true) =
    λ there. (or_right (nat_eq b x) (has xs b) (has_filter p xs b there).0, (has_filter p xs b there).1) in
    ⊎_elim
    (λ passes. ⊎_elim (λ here. (or_left (nat_eq b x) (has xs b) here, ap p (eqb-true b x here) ∙ passes)) rest
    (or_cases (nat_eq b x) (has (filter p xs) b) (ap (λ ks. has ks b) (sym (cond-true (p x) (x ∷ filter p xs) (filter p xs) passes)) ∙ h)))
    (λ fails. rest (ap (λ ks. has ks b) (sym (cond-false (p x) (x ∷ filter p xs) (filter p xs) fails)) ∙ h))
    (cases_Bool (p x))

pub in_filter : (p : ℕ → Bool) (xs : List ℕ) (b : ℕ) → has xs b ≡ true → p b ≡ true → has (filter p xs) b ≡ true
in_filter p [] b h e = absurd (false≢true h)
in_filter p (x ∷ xs) b h e =
    ⊎_elim
    (λ here. ap (λ ks. has ks b) (cond-true (p x) (x ∷ filter p xs) (filter p xs) (ap p (sym (eqb-true b x here)) ∙ e)) ∙ or_left (nat_eq b x) (has (filter p xs) b) here)
    (λ there. ⊎_elim
    (λ passes. ap (λ ks. has ks b) (cond-true (p x) (x ∷ filter p xs) (filter p xs) passes) ∙ or_right (nat_eq b x) (has (filter p xs) b) (in_filter p xs b there e))
    (λ fails. ap (λ ks. has ks b) (cond-false (p x) (x ∷ filter p xs) (filter p xs) fails) ∙ in_filter p xs b there e)
    (cases_Bool (p x)))
    (or_cases (nat_eq b x) (has xs b) h)

-- the least of a list is one of it, and none of it is less
pub record IsLeast (xs : List ℕ) (least : ℕ) : Type 0 where
  pub member : has xs least ≡ true
  pub below : (other : ℕ) → has xs other ≡ true → least ≤ other

min_one : (x y : ℕ) → (min x y ≡ x) ⊎ (min x y ≡ y)
min_one x y = grind arith

pub fold_min : (x : ℕ) (xs : List ℕ) → IsLeast (x ∷ xs) (fold min x xs)
fold_min x [] = record {
  member = has-first x [];
  below = λ other h. ⊎_elim (λ here. let e = eqb-true other x here in omega arith) (λ there. absurd (false≢true there)) (or_cases (nat_eq other x) false h);
}
fold_min x (y ∷ ys) =
    let m = fold min (min x y) ys in
    let rest = fold_min (min x y) ys in
    let at_second : has (y ∷ ys) m ≡ true → has (x ∷ y ∷ ys) m ≡ true = or_right (nat_eq m x) (has (y ∷ ys) m) in
    let low : m ≤ min x y = rest.below (min x y) (has-first (min x y) ys) in
    record {
      member = ⊎_elim
          (λ here. let e = eqb-true m (min x y) here in
          ⊎_elim (λ first. or_left (nat_eq m x) (has (y ∷ ys) m) (eq-eqb m x (e ∙ first)))
          (λ second. at_second (or_left (nat_eq m y) (has ys m) (eq-eqb m y (e ∙ second)))) (min_one x y))
          (λ there. at_second (or_right (nat_eq m y) (has ys m) there))
          (or_cases (nat_eq m (min x y)) (has ys m) rest.member);
      below = λ other h. ⊎_elim (λ first. let e = eqb-true other x first in omega arith)
          (λ later. ⊎_elim (λ second. let e = eqb-true other y second in omega arith)
          (λ there. rest.below other (or_right (nat_eq other (min x y)) (has ys other) there)) (or_cases (nat_eq other y) (has ys other) later))
          (or_cases (nat_eq other x) (has (y ∷ ys) other) h);
    }

-- the least member of a list that passes a test
pub record IsLeastPassing (p : ℕ → Bool) (xs : List ℕ) (least : ℕ) : Type 0 where
  pub member : has xs least ≡ true
  pub passes : p least ≡ true
  pub below : (other : ℕ) → has xs other ≡ true → p other ≡ true → least ≤ other

least_of : (p : ℕ → Bool) (xs kept : List ℕ) → kept ≡ filter p xs → list_any p xs ≡ true → IsLeastPassing p xs (unwrap_or (reduce min kept) 0)
least_of p xs [] e some =
    let one = some_passes p xs some in
    absurd (false≢true (ap (λ kept. has kept one.0) e ∙ in_filter p xs one.0 one.1 one.2))
least_of p xs (k ∷ ks) e some =
    let least = fold_min k ks in
    let one = has_filter p xs (fold min k ks) (ap (λ v. has v (fold min k ks)) (sym e) ∙ least.member) in
    record {
      member = one.0;
      passes = one.1;
      below = λ other h passes. least.below other (ap (λ v. has v other) e ∙ in_filter p xs other h passes);
    }

pub least_passing : (p : ℕ → Bool) (xs : List ℕ) → list_any p xs ≡ true → IsLeastPassing p xs (unwrap_or (reduce min (filter p xs)) 0)
least_passing p xs some = least_of p xs (filter p xs) refl some
