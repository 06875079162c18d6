-- What a statement as it is written means, on tables of these names and columns and at a place: the statement on their
-- columns' numbers, or its refusal for the first cause, in the order in which the lines below have them.
use Rattle.std.specs.Prelude.{ℕ, ◌+◌, Bool, true, false, not, ◌==◌, nat_lt, nat_le, List, [], ◌∷◌, length, take, Result, Ok, Option, Some, None, if◌then◌else◌}
use Rattle.std.specs.List.{list_all}
use Rattle.std.specs.Option.{is_some}
use Rattle.std.specs.Str.{bytes_eq}
use Rattle.isp_mbr.specs.declared.predicate.Test.{Test}
use Rattle.isp_serial.specs.declared.script.Place.{Place}
use Rattle.isp_serial.specs.declared.script.Place.TheVariants as place
use Rattle.isp_plain.specs.declared.statement.Assign.{Assign}
use Rattle.isp_plain.specs.declared.statement.Atom.{Atom}
use Rattle.isp_plain.specs.declared.statement.Atom.TheVariants as atom
use Rattle.isp_plain.specs.declared.statement.Condition.{Condition}
use Rattle.isp_plain.specs.declared.statement.Op.{Op}
use Rattle.isp_plain.specs.declared.statement.Statement.{Statement}
use Rattle.isp_plain.specs.declared.statement.Statement.TheVariants as statement
use Rattle.isp_plain.specs.declared.value.Column.{Column}
use Rattle.isp_plain.specs.declared.value.Kind.{Kind}
use Rattle.isp_plain.specs.declared.value.Kind.TheVariants as kind
use Rattle.isp_plain.specs.declared.value.Row.{Row}
use Rattle.isp_plain.specs.declared.value.Schema.{Schema}
use Rattle.isp_plain.specs.declared.value.Value.{Value}
use Rattle.isp_plain.specs.RowBytes.{row_bytes, row_limit}
use Rattle.isp_plain.specs.Values.{box_of}
use Rattle.isp_sql.specs.declared.parsed.Literal.{Literal}
use Rattle.isp_sql.specs.declared.parsed.Parsed.{Parsed}
use Rattle.isp_sql.specs.declared.parsed.Parsed.TheVariants as parsed
use Rattle.isp_sql.specs.declared.parsed.ParsedAtom.{ParsedAtom}
use Rattle.isp_sql.specs.declared.parsed.ParsedAtom.TheVariants as written
use Rattle.isp_sql.specs.declared.parsed.ParsedColumn.{ParsedColumn}
use Rattle.isp_sql.specs.declared.parsed.ParsedSet.{ParsedSet}
use Rattle.isp_plain.specs.declared.refusal.Refusal.{Refusal}
use Rattle.isp_plain.specs.declared.refusal.Refusal.TheVariants.{NotAllowedHere, AlreadyBegun, TableExists, OutOfLimits, NoSuchTable, UnknownColumn, KeyCannotBeSet, ColumnCount, WrongType, RowTooLarge}
use Rattle.isp_plan.specs.Creating.{column_limit, table_limit, is_short, schema_of}
use Rattle.isp_plan.specs.Literals.{stored, compared, geometry_of}
use Rattle.isp_plan.specs.Refusals.{◌>>=◌, ensure, known, each, stated}

-- ---- names

-- a table's name and its columns
abbrev pub Definition : Type 0
Definition = List ℕ × Schema

-- the columns of the table of this name
abbrev pub schema_named : List (List ℕ × Schema) → List ℕ → Option Schema
schema_named [] name = None
schema_named (table ∷ tables) name = if bytes_eq table.0 name then Some table.1 else schema_named tables name

-- the number of the column of this name, the first of these columns having this one, and its kind
abbrev pub named_from : ℕ → List Column → List ℕ → Option (ℕ × Kind)
named_from number [] name = None
named_from number (column ∷ columns) name =
    if bytes_eq column.name name then Some (number, column.kind) else named_from (number + 1) columns name

-- the column of this name among the columns of a table, which are no more than the limit
abbrev pub named : List Column → List ℕ → Option (ℕ × Kind)
named columns name = named_from 0 (take column_limit columns) name

abbrev pub is_column : List Column → List ℕ → Bool
is_column columns name = is_some (named columns name)

abbrev pub is_key : List Column → List ℕ → Bool
is_key [] name = false
is_key (key ∷ columns) name = bytes_eq key.name name

-- ---- rows

-- the values of a row, in the order of the columns
abbrev pub values_of : List Column → List Literal → Result (List Value) Refusal
values_of (column ∷ columns) (literal ∷ literals) = do
  value ← stored column.kind literal
  values ← values_of columns literals
  Ok (value ∷ values)
values_of _ _ = Ok []

abbrev pub row_of : List Column → List Literal → Result Row Refusal
row_of columns literals = do
  values ← values_of columns literals
  Ok (record { values = values })

abbrev pub rows_of : List Column → List (List Literal) → Result (List Row) Refusal
rows_of columns rows = each (λ row. row_of columns row) rows

-- each row has as many values as there are columns
abbrev pub are_counted : List Column → List (List Literal) → Bool
are_counted columns rows = list_all (λ row. length row == length columns) rows

abbrev pub is_small : Schema → Row → Bool
is_small schema row = nat_le (row_bytes schema row) row_limit

-- ---- new values

abbrev pub set_of : List Column → ParsedSet → Result Assign Refusal
set_of columns set = do
  column ← known UnknownColumn (named columns set.column)
  value ← stored column.1 set.v
  Ok (record { column = column.0; v = value })

abbrev pub sets_of : List Column → List ParsedSet → Result (List Assign) Refusal
sets_of columns sets = each (λ set. set_of columns set) sets

-- the columns that are set are there
abbrev pub are_settable : List Column → List ParsedSet → Bool
are_settable columns sets = list_all (λ set. is_column columns set.column) sets

abbrev pub is_other : List Column → ParsedSet → Bool
is_other columns set = not (is_key columns set.column)

-- ---- conditions

abbrev pub column_name : ParsedAtom → List ℕ
column_name (written.Cmp column op v) = column
column_name (written.Box column test g) = column

-- the columns that a condition names are there
abbrev pub are_columns : List Column → List ParsedAtom → Bool
are_columns columns atoms = list_all (λ a. is_column columns (column_name a)) atoms

abbrev pub is_geometry : Kind → Bool
is_geometry kind.Geo = true
is_geometry _ = false

abbrev pub comparison : ℕ × Kind → Op → Literal → Result Atom Refusal
comparison column op v = do
  value ← compared column.1 v
  Ok (atom.Cmp column.0 op value)

-- a test against the box of a geometry
abbrev pub box_test : ℕ × Kind → Test → List ℕ → Result Atom Refusal
box_test column test text = do
  geo ← ensure WrongType (is_geometry column.1)
  form ← geometry_of text
  Ok (atom.Box column.0 (record { test = test; q = box_of form }))

abbrev pub atom_of : List Column → ParsedAtom → Result Atom Refusal
atom_of columns (written.Cmp name op v) = known UnknownColumn (named columns name) >>= λ column. comparison column op v
atom_of columns (written.Box name test text) = known UnknownColumn (named columns name) >>= λ column. box_test column test text

abbrev pub condition_of : List Column → List ParsedAtom → Result Condition Refusal
condition_of columns atoms = do
  bound ← each (λ a. atom_of columns a) atoms
  Ok (record { atoms = bound })

-- ---- the columns that are shown

-- the numbers of so many columns from this one on
abbrev pub numbers_from : ℕ → List Column → List ℕ
numbers_from number [] = []
numbers_from number (column ∷ columns) = number ∷ numbers_from (number + 1) columns

abbrev pub number_named : List Column → List ℕ → Result ℕ Refusal
number_named columns name = do
  column ← known UnknownColumn (named columns name)
  Ok column.0

-- the named columns in their order, or all in the order of the table
abbrev pub shown : List Column → Option (List (List ℕ)) → Result (List ℕ) Refusal
shown columns None = Ok (numbers_from 0 (take column_limit columns))
shown columns (Some names) = each (λ name. number_named columns name) names

-- ---- statements

abbrev pub is_table : List (List ℕ × Schema) → List ℕ → Bool
is_table tables name = is_some (schema_named tables name)

unfoldable pub create : List (List ℕ × Schema) → List ℕ → List ℕ → List ParsedColumn → List (List ℕ) → Result Statement Refusal
create tables name key columns indexes = do
  fresh ← ensure TableExists (not (is_table tables name))
  room ← ensure OutOfLimits (nat_lt (length tables) table_limit)
  short ← ensure OutOfLimits (is_short name)
  schema ← schema_of key columns indexes
  Ok (statement.Create name schema)

unfoldable pub insert : List (List ℕ × Schema) → List ℕ → List (List Literal) → Result Statement Refusal
insert tables name rows = do
  schema ← known NoSuchTable (schema_named tables name)
  counted ← ensure ColumnCount (are_counted schema.columns rows)
  bound ← rows_of schema.columns rows
  small ← ensure RowTooLarge (list_all (is_small schema) bound)
  Ok (statement.Insert name bound)

unfoldable pub select : List (List ℕ × Schema) → List ℕ → Option (List (List ℕ)) → List ParsedAtom → Result Statement Refusal
select tables name names w = do
  schema ← known NoSuchTable (schema_named tables name)
  columns ← shown schema.columns names
  there ← ensure UnknownColumn (are_columns schema.columns w)
  condition ← condition_of schema.columns w
  Ok (statement.Select name columns condition)

unfoldable pub update : List (List ℕ × Schema) → List ℕ → List ParsedSet → List ParsedAtom → Result Statement Refusal
update tables name sets w = do
  schema ← known NoSuchTable (schema_named tables name)
  settable ← ensure UnknownColumn (are_settable schema.columns sets)
  there ← ensure UnknownColumn (are_columns schema.columns w)
  others ← ensure KeyCannotBeSet (list_all (is_other schema.columns) sets)
  bound ← sets_of schema.columns sets
  condition ← condition_of schema.columns w
  Ok (statement.Update name bound condition)

unfoldable pub delete : List (List ℕ × Schema) → List ℕ → List ParsedAtom → Result Statement Refusal
delete tables name w = do
  schema ← known NoSuchTable (schema_named tables name)
  there ← ensure UnknownColumn (are_columns schema.columns w)
  condition ← condition_of schema.columns w
  Ok (statement.Delete name condition)

abbrev pub meant : List (List ℕ × Schema) → Parsed → Result Statement Refusal
meant tables (parsed.Create name key columns indexes) = create tables name key columns indexes
meant tables (parsed.Insert name rows) = insert tables name rows
meant tables (parsed.Select name columns w) = select tables name columns w
meant tables (parsed.Update name sets w) = update tables name sets w
meant tables (parsed.Delete name w) = delete tables name w
meant tables parsed.Begin = Ok statement.Begin
meant tables parsed.Commit = Ok statement.Commit
meant tables parsed.Rollback = Ok statement.Rollback

-- tables are made in the setup alone, which also puts rows into them
abbrev pub is_allowed : Place → Parsed → Bool
is_allowed place.Setup (parsed.Create name key columns indexes) = true
is_allowed place.Setup (parsed.Insert name rows) = true
is_allowed place.Setup _ = false
is_allowed _ (parsed.Create name key columns indexes) = false
is_allowed _ _ = true

-- a transaction begins within another
abbrev pub begins_again : Place → Parsed → Bool
begins_again place.InTransaction parsed.Begin = true
begins_again _ _ = false

unfoldable pub checked : List (List ℕ × Schema) → Parsed → Place → Result Statement Refusal
checked tables p place = do
  allowed ← ensure NotAllowedHere (is_allowed place p)
  first ← ensure AlreadyBegun (not (begins_again place p))
  meant tables p

-- the statement that is meant, which is its refusal where there is a cause
abbrev pub bound : List (List ℕ × Schema) → Parsed → Place → Statement
bound tables p place = stated (checked tables p place)
