-- A wait graph is a list for each session: at place k those that session k waits for.
use Rattle.std.specs.Prelude.{ℕ, Bool, List, [], IsTrue, nat_eq, slice_index_or}
use Rattle.std.specs.List.{list_any}

-- whom the session waits for; nobody, where it has no list
abbrev pub waits_of : List (List ℕ) → ℕ → List ℕ
waits_of waits s = slice_index_or waits s []

-- the number is one of the list
abbrev pub has : List ℕ → ℕ → Bool
has xs x = list_any (nat_eq x) xs

-- a waits for b
abbrev pub WaitsFor : List (List ℕ) → ℕ → ℕ → Type 0
WaitsFor waits a b = IsTrue (has (waits_of waits a) b)
