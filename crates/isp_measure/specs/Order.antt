-- Lists of numbers, compared from the first on (the lexicographic order; that what has a measure in a well-founded order ends is
-- Floyd's, 1967).
use Rattle.std.specs.Prelude.{◌≡◌, ◌⊎◌, ℕ, ◌<◌, List, [], ◌∷◌, length}

-- at the first place at which they differ, the one list has a lower number
abbrev pub IsLower : List ℕ → List ℕ → Type 0
IsLower [] ys = ⊥
IsLower (x ∷ xs) [] = ⊥
IsLower (x ∷ xs) (y ∷ ys) = (x < y) ⊎ ((x ≡ y) × IsLower xs ys)

-- from a list of n numbers on, however they fall, lists of n numbers fall a finite number of times
pub data IsAccessible (n : ℕ) : List ℕ → Type 0 where
  accessible : (xs : List ℕ) → ((ys : List ℕ) → length ys ≡ n → IsLower ys xs → IsAccessible n ys) → IsAccessible n xs

abbrev pub OrderIsWellFounded : Type 0
OrderIsWellFounded = (n : ℕ) (xs : List ℕ) → length xs ≡ n → IsAccessible n xs
