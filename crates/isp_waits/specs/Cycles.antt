-- The cycles of a wait graph, as lists of sessions, and the least of them.
use Rattle.std.specs.Prelude.{ℕ, ◌<◌, ◌≤◌, ◌≡◌, ◌⊎◌, List, [], ◌∷◌, IsTrue, nat_eq, length}
use Rattle.std.specs.List.{IsDistinct}
use Rattle.isp_waits.specs.Graphs.{has, WaitsFor}

-- a waits for the first of the list, each of it for the next, and the last for z
abbrev pub Leads : List (List ℕ) → ℕ → List ℕ → ℕ → Type 0
Leads waits a [] z = WaitsFor waits a z
Leads waits a (x ∷ xs) z = WaitsFor waits a x × Leads waits x xs z

-- distinct sessions, each waiting for the next and the last for the first
abbrev pub IsCycle : List (List ℕ) → List ℕ → Type 0
IsCycle waits [] = ⊥
IsCycle waits (a ∷ xs) = Leads waits a xs a × IsDistinct nat_eq (a ∷ xs)

-- no cycle passes through s
abbrev pub IsFree : List (List ℕ) → ℕ → Type 0
IsFree waits s = (cycle : List ℕ) → IsCycle waits cycle → ¬ IsTrue (has cycle s)

-- the first list is less than the second, by the first place at which they differ
abbrev pub IsBefore : List ℕ → List ℕ → Type 0
IsBefore [] [] = ⊥
IsBefore [] (y ∷ ys) = Unit {0}
IsBefore (x ∷ xs) [] = ⊥
IsBefore (x ∷ xs) (y ∷ ys) = (x < y) ⊎ ((x ≡ y) × IsBefore xs ys)

-- a cycle that begins with s: none through s is shorter, and none as long that begins with s is less
pub record IsLeastCycle (waits : List (List ℕ)) (s : ℕ) (members : List ℕ) : Type 0 where
  pub cycle : IsCycle waits members
  pub begins : (rest : List ℕ) × (members ≡ s ∷ rest)
  pub shortest : (other : List ℕ) → IsCycle waits other → IsTrue (has other s) → length members ≤ length other
  pub least : (other : List ℕ) → IsCycle waits (s ∷ other) → length (s ∷ other) ≡ length members → ¬ IsBefore (s ∷ other) members
