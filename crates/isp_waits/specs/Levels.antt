-- What the search in breadth computes, level by level.
use Rattle.std.specs.Prelude.{ℕ, zero, suc, Bool, List, [], ◌∷◌, nat_eq, filter, unwrap_or, min, false, length, slice_index_or, ◌≡◌, ◌<◌}
use Rattle.std.specs.List.{list_any, reduce}
use Rattle.isp_waits.specs.Graphs.{waits_of}

-- whether just so many waits lead from v to s
unfoldable pub reaches : List (List ℕ) → ℕ → ℕ → ℕ → Bool
reaches waits s zero v = nat_eq s v
reaches waits s (suc steps) v = list_any (reaches waits s steps) (waits_of waits v)

-- the least session that v waits for and from which just so many waits lead to s
abbrev pub next : List (List ℕ) → ℕ → ℕ → ℕ → ℕ
next waits s steps v = unwrap_or (reduce min (filter (reaches waits s steps) (waits_of waits v))) 0

-- v, and on by the least session each time, without s at the end
unfoldable pub walk : List (List ℕ) → ℕ → ℕ → ℕ → List ℕ
walk waits s zero v = []
walk waits s (suc steps) v = v ∷ walk waits s steps (next waits s steps v)

-- the levels below that of so many steps
abbrev pub AreLevels : List (List ℕ) → ℕ → ℕ → List (List Bool) → Type 0
AreLevels waits s steps levels =
    (k : ℕ) → k < steps → (k < length levels) × ((v : ℕ) → slice_index_or (slice_index_or levels k []) v false ≡ reaches waits s k v)
