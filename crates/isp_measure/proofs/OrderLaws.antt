-- The order of lists is well founded.
use Rattle.std.proofs.Common.{◌≡◌, ◌⊎◌, ◌∙◌, inl, inr, sym, subst, ℕ, zero, suc, ◌<◌, ◌≤◌, List, [], ◌∷◌, length, arith, ap}
use Rattle.std.proofs.lemmas.Bool.{cases_lt}
use Rattle.isp_measure.specs.Order.{IsAccessible, accessible, IsLower, OrderIsWellFounded}

below : (P : ℕ → Type 0) → ((x : ℕ) → ((y : ℕ) → y < x → P y) → P x) → (n x : ℕ) → x < n → P x
below P each zero x lt = absurd (omega arith)
below P each (suc n) x lt = each x (λ y le. below P each n y (omega arith))

-- what holds of a number where it holds of all lower ones holds of each
by_number : (P : ℕ → Type 0) → ((x : ℕ) → ((y : ℕ) → y < x → P y) → P x) → (x : ℕ) → P x
by_number P each x = below P each (suc x) x (omega arith)

-- the same of lists of n numbers
pub by_list : (n : ℕ) (P : List ℕ → Type 0) → ((xs : List ℕ) → length xs ≡ n → ((ys : List ℕ) → length ys ≡ n → IsLower ys xs → P ys) → P xs)
    → (xs : List ℕ) → length xs ≡ n → P xs
by_list zero P each [] long = each [] long (λ ys l lower. absurd (none ys lower))
  where
    none : (ys : List ℕ) → IsLower ys [] → ⊥
    none [] lower = lower
    none (y ∷ ys) lower = lower
by_list zero P each (x ∷ xs) long = absurd (omega (arith, long))
by_list (suc n) P each [] long = absurd (omega (arith, long))
by_list (suc n) P each (x ∷ xs) long =
    by_number (λ y. (ys : List ℕ) → length ys ≡ n → P (y ∷ ys))
    (λ y less. by_list n (λ ys. P (y ∷ ys)) (λ ys l lower. each (y ∷ ys) (ap suc l) (by_first y ys less lower))) x xs (omega (arith, long))
  where
    by_first : (y : ℕ) (ys : List ℕ) → ((z : ℕ) → z < y → (zs : List ℕ) → length zs ≡ n → P (z ∷ zs)) → ((zs : List ℕ) → length zs ≡ n → IsLower zs ys → P (y ∷ zs))
        → (zs : List ℕ) → length zs ≡ suc n → IsLower zs (y ∷ ys) → P zs
    by_first y ys less lower [] l h = absurd h
    by_first y ys less lower (z ∷ zs) l (inl lt) = less z lt zs (omega (arith, l))
    by_first y ys less lower (z ∷ zs) l (inr same) = subst (λ k. P (k ∷ zs)) (sym same.0) (lower zs (omega (arith, l)) same.1)

pub order_is_well_founded : OrderIsWellFounded
order_is_well_founded n xs long = by_list n (IsAccessible n) (λ ys l each. accessible ys each) xs long

-- ---- lower at this place, or at a later one

pub lower_later : (x y : ℕ) (xs ys : List ℕ) → x ≤ y → IsLower xs ys → IsLower (x ∷ xs) (y ∷ ys)
lower_later x y xs ys le lower = by_less (cases_lt x y)
  where
    by_less : (x < y) ⊎ (y ≤ x) → IsLower (x ∷ xs) (y ∷ ys)
    by_less (inl lt) = inl lt
    by_less (inr ge) = inr (omega arith, lower)

pub lower_trans : (xs ys zs : List ℕ) → IsLower xs ys → IsLower ys zs → IsLower xs zs
lower_trans [] ys zs a b = absurd a
lower_trans (x ∷ xs) [] zs a b = absurd a
lower_trans (x ∷ xs) (y ∷ ys) [] a b = absurd b
lower_trans (x ∷ xs) (y ∷ ys) (z ∷ zs) (inl a) (inl b) = inl (omega (arith, a, b))
lower_trans (x ∷ xs) (y ∷ ys) (z ∷ zs) (inl a) (inr b) = inl (omega (arith, a, b.0))
lower_trans (x ∷ xs) (y ∷ ys) (z ∷ zs) (inr a) (inl b) = inl (omega (arith, a.0, b))
lower_trans (x ∷ xs) (y ∷ ys) (z ∷ zs) (inr a) (inr b) = inr (a.0 ∙ b.0, lower_trans xs ys zs a.1 b.1)

-- the same of a record, which keeps the order from being opened
pub record Falls (xs ys : List ℕ) : Type 0 where
  pub lower : IsLower xs ys

pub here : (x y : ℕ) (xs ys : List ℕ) → x < y → Falls (x ∷ xs) (y ∷ ys)
here x y xs ys lt = record { lower = inl lt }

pub later : (x y : ℕ) (xs ys : List ℕ) → x ≤ y → Falls xs ys → Falls (x ∷ xs) (y ∷ ys)
later x y xs ys le falls = record { lower = lower_later x y xs ys le falls.lower }
