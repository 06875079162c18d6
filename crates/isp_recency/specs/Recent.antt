-- A recency list: distinct numbers below a size, the last used first.
use Rattle.std.specs.Prelude.{ℕ, ◌≡◌, ◌<◌, ◌≤◌, ◌==◌, Bool, true, not, Option, Some, None, List, [], ◌∷◌, nat_eq, filter, if◌then◌else◌}
use Rattle.std.specs.List.{list_any, IsDistinct}
use Rattle.std.specs.Option.{option_or}

-- how many numbers there are at most: those of the frames of a pool
abbrev pub most_frames : ℕ
most_frames = 4096

-- all numbers that may come are below the size; the members, the last used first
pub record RecencyList : Type 0 where
  pub size : ℕ
  pub members : List ℕ

-- the number is one of the list
abbrev pub has : List ℕ → ℕ → Bool
has xs i = list_any (nat_eq i) xs

-- the list without that number
abbrev pub without : List ℕ → ℕ → List ℕ
without xs i = filter (λ x. not (x == i)) xs

-- the last of the list that passes the test
abbrev pub last_where : (ℕ → Bool) → List ℕ → Option ℕ
last_where test [] = None
last_where test (x ∷ xs) = option_or (last_where test xs) (if test x then Some x else None)

-- what holds of every recency list
pub record IsRecency (r : RecencyList) : Type 0 where
  pub least : 0 < r.size
  pub most : r.size ≤ most_frames
  pub distinct : IsDistinct nat_eq r.members
  pub below : (i : ℕ) → has r.members i ≡ true → i < r.size
