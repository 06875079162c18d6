-- Statements that fit the tables: the table is there, columns are the table's own, and each value is one that its column
-- can hold, or be compared with.
use Rattle.std.specs.Prelude.{◌≡◌, ℕ, Bool, true, false, not, ◌&&◌, ◌==◌, nat_le, List, [], ◌∷◌, length, slice_get, Option, Some, None}
use Rattle.std.specs.List.{list_all}
use Rattle.isp_serial.specs.declared.script.Place.{Place}
use Rattle.isp_plain.specs.declared.statement.Assign.{Assign}
use Rattle.isp_plain.specs.declared.statement.Atom.{Atom}
use Rattle.isp_plain.specs.declared.statement.Atom.TheVariants as atom
use Rattle.isp_plain.specs.declared.statement.Statement.{Statement}
use Rattle.isp_plain.specs.declared.statement.Statement.TheVariants as statement
use Rattle.isp_plain.specs.declared.value.Column.{Column}
use Rattle.isp_plain.specs.declared.value.Kind.{Kind}
use Rattle.isp_plain.specs.declared.value.Kind.TheVariants as kind
use Rattle.isp_plain.specs.declared.value.Row.{Row}
use Rattle.isp_plain.specs.declared.value.Schema.{Schema}
use Rattle.isp_plain.specs.declared.value.Value.{Value}
use Rattle.isp_plain.specs.declared.value.Value.TheVariants as value
use Rattle.isp_sql.specs.declared.parsed.Parsed.{Parsed}
use Rattle.isp_plan.specs.Binding.{bound, is_geometry, is_small, is_table, schema_named}

-- a column of the kind can hold the value
abbrev pub can_hold : Kind → Value → Bool
can_hold kind.BigInt (value.Int n) = true
can_hold (kind.VarChar size) (value.Text text) = nat_le (length text) size
can_hold kind.Geo (value.Geo form) = true
can_hold _ _ = false

-- a column of the kind can be compared with the value
abbrev pub can_meet : Kind → Value → Bool
can_meet kind.BigInt (value.Int n) = true
can_meet (kind.VarChar size) (value.Text text) = true
can_meet _ _ = false

-- the test is true of the kind of the column of this number, which is there
abbrev pub kind_passes : (Kind → Bool) → Option Column → Bool
kind_passes test (Some column) = test column.kind
kind_passes test None = false

abbrev pub column_passes : (Kind → Bool) → List Column → ℕ → Bool
column_passes test columns number = kind_passes test (slice_get columns number)

-- one value a column, which can hold it
abbrev pub fit_values : List Column → List Value → Bool
fit_values [] [] = true
fit_values (column ∷ columns) (v ∷ values) = can_hold column.kind v && fit_values columns values
fit_values _ _ = false

abbrev pub fits_row : Schema → Row → Bool
fits_row schema row = fit_values schema.columns row.values && is_small schema row

abbrev pub fits_atom : List Column → Atom → Bool
fits_atom columns (atom.Cmp column op v) = column_passes (λ k. can_meet k v) columns column
fits_atom columns (atom.Box column p) = column_passes is_geometry columns column

-- the key is not set
abbrev pub fits_set : List Column → Assign → Bool
fits_set columns set = not (set.column == 0) && column_passes (λ k. can_hold k set.v) columns set.column

abbrev pub fits_column : List Column → ℕ → Bool
fits_column columns number = column_passes (λ k. true) columns number

-- the table of this name is there, and this is true of its columns
abbrev pub OfTable : List (List ℕ × Schema) → List ℕ → (Schema → Type 0) → Type 0
OfTable tables name P = (schema : Schema) × (schema_named tables name ≡ Some schema) × P schema

abbrev pub Fits : List (List ℕ × Schema) → Statement → Type 0
Fits tables (statement.Create name schema) = is_table tables name ≡ false
Fits tables (statement.Insert name rows) = OfTable tables name (λ schema. list_all (fits_row schema) rows ≡ true)
Fits tables (statement.Select name columns w) = OfTable tables name (λ schema.
    (list_all (fits_column schema.columns) columns ≡ true) × (list_all (fits_atom schema.columns) w.atoms ≡ true))
Fits tables (statement.Update name sets w) = OfTable tables name (λ schema.
    (list_all (fits_set schema.columns) sets ≡ true) × (list_all (fits_atom schema.columns) w.atoms ≡ true))
Fits tables (statement.Delete name w) = OfTable tables name (λ schema. list_all (fits_atom schema.columns) w.atoms ≡ true)
Fits tables statement.Begin = Unit {0}
Fits tables statement.Commit = Unit {0}
Fits tables statement.Rollback = Unit {0}
Fits tables (statement.Refused refusal) = Unit {0}

-- each statement that is bound fits the tables that it is bound to
abbrev pub BoundFits : Type 0
BoundFits = (tables : List (List ℕ × Schema)) (p : Parsed) (place : Place) → Fits tables (bound tables p place)
