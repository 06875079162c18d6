-- What a statement does, as changes of single rows: one row is put in its place or taken out, and what stood there before,
-- put back, undoes it (the undo log, as the MySQL 8.0 manual has it).
use Rattle.std.specs.Prelude.{ℕ, ℤ, Bool, false, List, [], ◌∷◌, ◌++◌, map, filter, slice_get, slice_set, Option, Some, None}
use Rattle.std.specs.Option.{option_and_then}
use Rattle.isp_plain.specs.declared.value.Row.{Row}
use Rattle.isp_plain.specs.declared.statement.Statement.{Statement}
use Rattle.isp_plain.specs.declared.statement.Statement.TheVariants.{Create, Insert, Select, Update, Delete}
use Rattle.isp_plain.specs.Conditions.{holds}
use Rattle.isp_plain.specs.Does.{place_of, with_sets}
use Rattle.isp_plain.specs.Entries.{with_row, without_row}
use Rattle.isp_plain.specs.Tables.{Table}
use Rattle.isp_plain.specs.Values.{key_of}
use Rattle.isp_changes.specs.Rows.{row_at}

-- at the key, in the table at this place, from 0, stands the new row, or none
pub record RowChange : Type 0 where
  pub table : ℕ
  pub key : ℤ
  pub new : Option Row

-- ---- one change

-- the rows with this one at the key, or with none there
abbrev pub with_new : List (ℤ × Row) → ℤ → Option Row → List (ℤ × Row)
with_new rows key (Some row) = with_row rows key row
with_new rows key None = without_row rows key

abbrev pub changed_table : RowChange → Table → Table
changed_table change table = record table { rows = with_new table.rows change.key change.new }

abbrev pub with_changed : List Table → RowChange → Option Table → List Table
with_changed tables change (Some table) = slice_set tables change.table (changed_table change table)
with_changed tables change None = tables

abbrev pub after_change : List Table → RowChange → List Table
after_change tables change = with_changed tables change (slice_get tables change.table)

-- ---- changes, one after another

abbrev pub after_changes : List Table → List RowChange → List Table
after_changes tables [] = tables
after_changes tables (change ∷ changes) = after_changes (after_change tables change) changes

-- ---- what stood there before

abbrev pub row_in : List Table → ℕ → ℤ → Option Row
row_in tables place key = option_and_then (λ (table : Table). row_at table.rows key) (slice_get tables place)

-- the change that puts back what stands at the key now
abbrev pub image_of : List Table → RowChange → RowChange
image_of tables change =
    record { table = change.table; key = change.key; new = row_in tables change.table change.key }

-- those that undo changes which are made one after another on these tables, the newest first
abbrev pub undo_of : List Table → List RowChange → List RowChange
undo_of tables [] = []
undo_of tables (change ∷ changes) = undo_of (after_change tables change) changes ++ image_of tables change ∷ []

-- ---- the changes of a statement

-- what is said of the table of that name and its place, or else
abbrev pub of_found : {X : Type 0} → X → (ℕ → Table → X) → ℕ → Option Table → X
of_found other f place (Some table) = f place table
of_found other f place None = other

abbrev pub of_place : {X : Type 0} → X → (ℕ → Table → X) → List Table → Option ℕ → X
of_place other f tables (Some place) = of_found other f place (slice_get tables place)
of_place other f tables None = other

abbrev pub of_table : {X : Type 0} → X → (ℕ → Table → X) → List Table → List ℕ → X
of_table other f tables name = of_place other f tables (place_of tables name)

-- the same of a property; it is none where there is no such table
abbrev pub OfFound : (ℕ → Table → Type 0) → ℕ → Option Table → Type 0
OfFound P place (Some table) = P place table
OfFound P place None = Unit {0}

abbrev pub OfPlace : (ℕ → Table → Type 0) → List Table → Option ℕ → Type 0
OfPlace P tables (Some place) = OfFound P place (slice_get tables place)
OfPlace P tables None = Unit {0}

-- the condition of the statement holds of the row
abbrev pub is_held : Statement → Row → Bool
is_held (Select name columns w) row = holds w row
is_held (Update name sets w) row = holds w row
is_held (Delete name w) row = holds w row
is_held _ row = false

-- those of the rows of which it does
abbrev pub held : Statement → List (ℤ × Row) → List (ℤ × Row)
held statement rows = filter (λ e. is_held statement e.1) rows

-- the pieces, one behind the other
abbrev pub joined : List (List (ℤ × Row)) → List (ℤ × Row)
joined [] = []
joined (piece ∷ pieces) = piece ++ joined pieces

-- the row at the key as a piece, which is empty where there is none
abbrev pub piece_of : ℤ → Option Row → List (ℤ × Row)
piece_of key (Some row) = (key, row) ∷ []
piece_of key None = []

abbrev pub found_at : List (ℤ × Row) → ℤ → List (ℤ × Row)
found_at rows key = piece_of key (row_at rows key)

-- a row that INSERT adds
abbrev pub adding : ℕ → Row → RowChange
adding place row = record { table = place; key = key_of row; new = Some row }

-- the new row where this one stood
abbrev pub replacing : ℕ → ℤ → Option Row → RowChange
replacing place key new = record { table = place; key = key; new = new }

-- of the rows of which its condition holds
abbrev pub changes_by : ℕ → Statement → List (ℤ × Row) → List RowChange
changes_by place (Update name sets w) rows = map (λ e. replacing place e.0 (Some (with_sets sets e.1))) rows
changes_by place (Delete name w) rows = map (λ e. replacing place e.0 None) rows
changes_by place _ rows = []

-- of INSERT its rows, in the order of the text; of UPDATE and DELETE the rows that hold, rising by key
abbrev pub changes_in : ℕ → Statement → List (ℤ × Row) → List RowChange
changes_in place (Insert name rows) stored = map (adding place) rows
changes_in place statement stored = changes_by place statement (held statement stored)

abbrev pub changes_of : List Table → Statement → List RowChange
changes_of tables (Insert name rows) = of_table [] (λ place table. changes_in place (Insert name rows) table.rows) tables name
changes_of tables (Update name sets w) = of_table [] (λ place table. changes_in place (Update name sets w) table.rows) tables name
changes_of tables (Delete name w) = of_table [] (λ place table. changes_in place (Delete name w) table.rows) tables name
changes_of tables _ = []

-- the table that CREATE adds
abbrev pub made_by : Statement → List Table
made_by (Create name schema) = record { name = name; schema = schema; rows = [] } ∷ []
made_by _ = []
