-- The sets of UPDATE that count, the rows that it writes, and how they are put in their places one by one.
use Rattle.std.specs.Prelude.{ℕ, ℤ, Bool, ◌==◌, List, [], ◌∷◌, ◌++◌, filter, map, if◌then◌else◌}
use Rattle.std.specs.List.{list_any}
use Rattle.isp_plain.specs.declared.value.Row.{Row}
use Rattle.isp_plain.specs.declared.statement.Assign.{Assign}
use Rattle.isp_plain.specs.declared.statement.Condition.{Condition}
use Rattle.isp_plain.specs.Conditions.{holds}
use Rattle.isp_plain.specs.Does.{with_sets}
use Rattle.isp_plain.specs.Entries.{with_value}

-- one of them sets the column
abbrev pub is_set : List Assign → ℕ → Bool
is_set sets column = list_any (λ set. set.column == column) sets

-- of each column the last of them
abbrev pub last_sets : List Assign → List Assign
last_sets [] = []
last_sets (set ∷ sets) = (if is_set sets set.column then [] else set ∷ []) ++ last_sets sets

-- the rows of which the condition holds, with their new values
abbrev pub changes_of : List Assign → Condition → List (ℤ × Row) → List (ℤ × Row)
changes_of sets condition entries = map (λ e. (e.0, with_sets sets e.1)) (filter (λ e. holds condition e.1) entries)

-- each row in the place of the one at its key
abbrev pub with_changes : List (ℤ × Row) → List (ℤ × Row) → List (ℤ × Row)
with_changes entries [] = entries
with_changes entries (change ∷ changes) = with_changes (with_value entries change.0 change.1) changes
