-- Which member of a cycle gives way.
use Rattle.std.specs.Prelude.{ℕ, ◌<◌, ◌≤◌, ◌≡◌, ◌⊎◌, List, IsTrue, slice_index}
use Rattle.isp_waits.specs.Graphs.{has}

-- a gives way rather than b: it has fewer undo entries, or as many and no smaller number
abbrev pub GivesWay : List ℕ → ℕ → ℕ → Type 0
GivesWay undo a b = (slice_index undo a < slice_index undo b) ⊎ ((slice_index undo a ≡ slice_index undo b) × (b ≤ a))

-- a member that gives way rather than any other
pub record IsVictim (members undo : List ℕ) (victim : ℕ) : Type 0 where
  pub member : IsTrue (has members victim)
  pub first : (other : ℕ) → IsTrue (has members other) → GivesWay undo victim other
