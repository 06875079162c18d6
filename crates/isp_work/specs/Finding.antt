-- What a statement finds in a piece of its table, which it reads at once.
use Rattle.std.specs.Prelude.{ℤ, Bool, true, false, nat_lt, List, [], filter, map, if◌then◌else◌}
use Rattle.std.specs.List.{list_any}
use Rattle.std.specs.Map.{values_of}
use Rattle.isp_plain.specs.Conditions.{holds}
use Rattle.isp_plain.specs.Does.{cut, with_sets}
use Rattle.isp_plain.specs.RowBytes.{row_bytes, row_limit}
use Rattle.isp_plain.specs.declared.statement.Assign.{Assign}
use Rattle.isp_plain.specs.declared.statement.Condition.{Condition}
use Rattle.isp_plain.specs.declared.statement.Statement.{Statement}
use Rattle.isp_plain.specs.declared.statement.Statement.TheVariants.{Delete, Select, Update}
use Rattle.isp_plain.specs.declared.value.Row.{Row}
use Rattle.isp_plain.specs.declared.value.Schema.{Schema}
use Rattle.isp_work.specs.declared.found.Found.{Found}
use Rattle.isp_work.specs.declared.found.Found.TheVariants.{Rows, TooLarge}

-- those of which the condition holds
abbrev pub held_by : Condition → List (ℤ × Row) → List Row
held_by w rows = values_of (filter (λ e. holds w e.1) rows)

-- with the new values the row would have more bytes than a row may have
abbrev pub is_too_large : Schema → List Assign → Row → Bool
is_too_large schema sets row = nat_lt row_limit (row_bytes schema (with_sets sets row))

-- the rows with the new values, unless one of them would
abbrev pub updated_by : Schema → List Assign → List Row → Found
updated_by schema sets rows = if list_any (is_too_large schema sets) rows then TooLarge else Rows (map (with_sets sets) rows)

-- of these rows
abbrev pub found_in : Schema → Statement → List (ℤ × Row) → Found
found_in schema (Select name columns w) rows = Rows (map (cut columns) (held_by w rows))
found_in schema (Update name sets w) rows = updated_by schema sets (held_by w rows)
found_in schema (Delete name w) rows = Rows (held_by w rows)
found_in schema _ rows = Rows []

-- the statement reads rows of its table
abbrev pub reads : Statement → Bool
reads (Select name columns w) = true
reads (Update name sets w) = true
reads (Delete name w) = true
reads _ = false
