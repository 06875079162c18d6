-- What a statement answers and leaves on plain tables, as the MySQL 8.0 manual has these statements.
use Rattle.std.specs.Prelude.{ℕ, ℤ, Bool, not, nat_lt, ◌&&◌, List, [], ◌∷◌, ◌++◌, length, map, filter, slice_get, slice_set, if◌then◌else◌, Some, None, Option}
use Rattle.std.specs.List.{fold, filter_map, list_any, position}
use Rattle.std.specs.Str.{bytes_eq}
use Rattle.std.specs.Map.{values_of}
use Rattle.isp_plain.specs.declared.refusal.Refusal.{Refusal}
use Rattle.isp_plain.specs.declared.refusal.Refusal.TheVariants.{DuplicateKey, NoSuchTable, RowTooLarge}
use Rattle.isp_plain.specs.declared.value.Row.{Row}
use Rattle.isp_plain.specs.declared.value.Schema.{Schema}
use Rattle.isp_plain.specs.declared.value.Value.{Value}
use Rattle.isp_plain.specs.declared.statement.Assign.{Assign}
use Rattle.isp_plain.specs.declared.statement.Condition.{Condition}
use Rattle.isp_plain.specs.declared.statement.Reply.{Reply}
use Rattle.isp_plain.specs.declared.statement.Reply.TheVariants as reply
use Rattle.isp_plain.specs.declared.statement.Statement.{Statement}
use Rattle.isp_plain.specs.declared.statement.Statement.TheVariants.{Create, Insert, Select, Update, Delete, Begin, Commit, Rollback, Refused}
use Rattle.isp_plain.specs.Conditions.{holds}
use Rattle.isp_plain.specs.Entries.{first_duplicate, with_rows}
use Rattle.isp_plain.specs.RowBytes.{row_bytes, row_limit}
use Rattle.isp_plain.specs.Tables.{Table}

-- ---- the rows of a table

-- the row's values in the named columns, in their order
abbrev pub cut : List ℕ → Row → Row
cut columns row = record { values = filter_map (slice_get row.values) columns }

-- the rows that hold, rising by key, cut to the named columns
abbrev pub selected : List Row → List ℕ → Condition → List Row
selected rows columns condition = map (cut columns) (filter (holds condition) rows)

-- the new value in its column, and every other as it was
abbrev pub with_set : List Value → Assign → List Value
with_set values set = slice_set values set.column set.v

-- the row with all of the new values; of two for one column the last one counts
abbrev pub with_sets : List Assign → Row → Row
with_sets sets row = record { values = fold with_set row.values sets }

-- the row after UPDATE: with the new values where the condition holds of it
abbrev pub updated : List Assign → Condition → Row → Row
updated sets condition row = if holds condition row then with_sets sets row else row

-- the condition holds of the row, and with the new values it would have more row bytes than a row may have
abbrev pub outgrows : Schema → List Assign → Condition → Row → Bool
outgrows schema sets condition row = holds condition row && nat_lt row_limit (row_bytes schema (with_sets sets row))

-- how many rows hold
abbrev pub count_of : Condition → List Row → ℕ
count_of condition rows = length (filter (holds condition) rows)

-- ---- one table

-- an answer, and the table after it
pub record Change : Type 0 where
  pub reply : Reply
  pub table : Table

-- a refusal, which leaves the table
abbrev pub refused : Refusal → Table → Change
refused refusal table = record { reply = reply.Err refusal; table = table }

-- all of the rows where no key stands twice, else none
abbrev pub insert_or : List Row → Table → Option ℤ → Change
insert_or rows table None = record { reply = reply.Count (length rows); table = record table { rows = with_rows table.rows rows } }
insert_or rows table (Some key) = refused (DuplicateKey key) table

abbrev pub insert : List Row → Table → Change
insert rows table = insert_or rows table (first_duplicate table.rows rows)

-- every row that holds gets its new values, or none where one of them would get too large
abbrev pub update : List Assign → Condition → Table → Change
update sets condition table =
    if list_any (outgrows table.schema sets condition) (values_of table.rows) then refused RowTooLarge table
    else record {
      reply = reply.Count (count_of condition (values_of table.rows));
      table = record table { rows = map (λ e. (e.0, updated sets condition e.1)) table.rows };
    }

-- every row that holds leaves
abbrev pub delete : Condition → Table → Change
delete condition table = record {
  reply = reply.Count (count_of condition (values_of table.rows));
  table = record table { rows = filter (λ e. not (holds condition e.1)) table.rows };
}

-- ---- the tables

-- an answer, and the tables after it
pub record Outcome : Type 0 where
  pub reply : Reply
  pub tables : List Table

abbrev pub answered : List Table → Reply → Outcome
answered tables reply = record { reply = reply; tables = tables }

-- the refusal of a statement on a table that isn't there; binding gives it before any statement does
abbrev pub no_such_table : Reply
no_such_table = reply.Err NoSuchTable

-- the table of that name, by its place
abbrev pub place_of : List Table → List ℕ → Option ℕ
place_of tables name = position (λ table. bytes_eq table.name name) tables

abbrev pub table_at : List Table → Option ℕ → Option Table
table_at tables (Some place) = slice_get tables place
table_at tables None = None

abbrev pub table_named : List Table → List ℕ → Option Table
table_named tables name = table_at tables (place_of tables name)

-- the table at a place changes so, and every other stays
abbrev pub changed_at : List Table → ℕ → (Table → Change) → Option Table → Outcome
changed_at tables place change (Some table) =
    record { reply = (change table).reply; tables = slice_set tables place (change table).table }
changed_at tables place change None = answered tables no_such_table

abbrev pub changed_in : List Table → Option ℕ → (Table → Change) → Outcome
changed_in tables (Some place) change = changed_at tables place change (slice_get tables place)
changed_in tables None change = answered tables no_such_table

abbrev pub select_reply : Option Table → List ℕ → Condition → Reply
select_reply None columns condition = no_such_table
select_reply (Some table) columns condition = reply.Rows (selected (values_of table.rows) columns condition)

-- what the statement answers and leaves: a refused one leaves the tables
abbrev pub does : List Table → Statement → Outcome
does tables (Create name schema) = answered (tables ++ record { name = name; schema = schema; rows = [] } ∷ []) reply.Ok
does tables (Insert name rows) = changed_in tables (place_of tables name) (insert rows)
does tables (Select name columns condition) = answered tables (select_reply (table_named tables name) columns condition)
does tables (Update name sets condition) = changed_in tables (place_of tables name) (update sets condition)
does tables (Delete name condition) = changed_in tables (place_of tables name) (delete condition)
does tables Begin = answered tables reply.Ok
does tables Commit = answered tables reply.Ok
does tables Rollback = answered tables reply.Ok
does tables (Refused refusal) = answered tables (reply.Err refusal)
