-- The parameters of the machine: the script, what its texts mean, and how the rows of a condition are found (access paths, as the
-- MySQL 8.0 manual has them). Nothing of the grammar of statements is known here.
use Rattle.std.specs.Prelude.{◌≡◌, ℕ, ℤ, ◌==◌, Bool, true, false, List, ◌∷◌, All, map, slice_get, Option, Some, None, IsNone, IfSome}
use Rattle.isp_mbr.specs.declared.predicate.Predicate.{Predicate}
use Rattle.isp_plain.specs.declared.statement.Assign.{Assign}
use Rattle.isp_plain.specs.declared.statement.Condition.{Condition}
use Rattle.isp_plain.specs.declared.statement.Statement.{Statement}
use Rattle.isp_plain.specs.declared.statement.Statement.TheVariants.{Create, Insert, Select, Update, Delete}
use Rattle.isp_plain.specs.declared.value.Column.{Column}
use Rattle.isp_plain.specs.declared.value.Kind.TheVariants as kind
use Rattle.isp_plain.specs.declared.value.Row.{Row}
use Rattle.isp_plain.specs.declared.value.Schema.{Schema}
use Rattle.isp_plain.specs.declared.value.Value.{Value}
use Rattle.isp_plain.specs.declared.value.Value.TheVariants.{Int, Geo}
use Rattle.isp_plain.specs.Conditions.{holds, value_satisfies}
use Rattle.isp_plain.specs.Does.{place_of, table_named}
use Rattle.isp_plain.specs.Tables.{Table, definition_of}
use Rattle.isp_plain.specs.Values.{key_of}
use Rattle.isp_serial.specs.declared.script.Place.{Place}
use Rattle.isp_serial.specs.declared.script.Place.TheVariants as place
use Rattle.isp_serial.specs.declared.script.Script.{Script}
use Rattle.isp_serial.specs.Transactions.{Language}

-- how the rows of a condition are found: by their key, by a search of a column's tree, or by going over all rows
pub data Way : Type 0 where
  by_key : ℤ → Way
  by_box : ℕ → Predicate → Way
  by_scan : Way

-- the way of each statement with a condition, on a table with these columns
abbrev pub Ways : Type 0
Ways = Schema → Statement → Way

pub record Machine : Type 0 where
  pub script : Script
  pub language : Language
  pub ways : Ways

-- ---- sound ways

-- the statement's condition
abbrev pub condition_of : Statement → Option Condition
condition_of (Select name columns w) = Some w
condition_of (Update name sets w) = Some w
condition_of (Delete name w) = Some w
condition_of _ = None

-- the row begins with a whole number
abbrev pub begins_with_number : List Value → Bool
begins_with_number (Int key ∷ others) = true
begins_with_number _ = false

abbrev pub is_indexed_column : Option Column → Bool
is_indexed_column (Some column) = column.indexed
is_indexed_column None = false

-- the column of that number has a tree
abbrev pub is_indexed : Schema → ℕ → Bool
is_indexed schema column = is_indexed_column (slice_get schema.columns column)

-- the condition holds of no other rows than the way finds
abbrev pub FindsAll : Schema → Condition → Way → Type 0
FindsAll schema w (by_key key) = (row : Row) → begins_with_number row.values ≡ true → holds w row ≡ true → key_of row ≡ key
FindsAll schema w (by_box column predicate) =
    (is_indexed schema column ≡ true)
    × ((row : Row) → begins_with_number row.values ≡ true → holds w row ≡ true → value_satisfies predicate (slice_get row.values column) ≡ true)
FindsAll schema w by_scan = Unit {0}

abbrev pub AreSound : Ways → Type 0
AreSound ways = (schema : Schema) (statement : Statement) → IfSome (condition_of statement) (λ w. FindsAll schema w (ways schema statement))

-- ---- servable languages

-- columns as CREATE makes them: the first has whole numbers, and only columns of geometries have trees
pub record IsDefinition (schema : Schema) : Type 0 where
  pub first : Column
  pub there : slice_get schema.columns 0 ≡ Some first
  pub key : first.kind ≡ kind.BigInt
  pub trees : (number : ℕ) (column : Column) → slice_get schema.columns number ≡ Some column → column.indexed ≡ true → column.kind ≡ kind.Geo

abbrev pub AreDefinitions : List Table → Type 0
AreDefinitions tables = All (λ table. IsDefinition table.schema) tables

abbrev pub is_geometry : Option Value → Bool
is_geometry (Some (Geo form)) = true
is_geometry _ = false

-- the row begins with its key and has a geometry in each indexed column
pub record IsStorable (schema : Schema) (row : Row) : Type 0 where
  pub key : begins_with_number row.values ≡ true
  pub geometries : (column : ℕ) → is_indexed schema column ≡ true → is_geometry (slice_get row.values column) ≡ true

-- the new value is none for the key, and for an indexed column a geometry
pub record IsSettable (schema : Schema) (set : Assign) : Type 0 where
  pub not_key : (set.column == 0) ≡ false
  pub geometry : is_indexed schema set.column ≡ true → is_geometry (Some set.v) ≡ true

-- the table of that name is there, and its columns are such
abbrev pub IsThere : List Table → List ℕ → (Schema → Type 0) → Type 0
IsThere tables name P = (table : Table) × (table_named tables name ≡ Some table) × P table.schema

abbrev pub AnySchema : Schema → Type 0
AnySchema schema = Unit {0}

-- CREATE stands in the setup alone and makes a table with a new name; any other statement's table is there
abbrev pub CanServe : List Table → Place → Statement → Type 0
CanServe tables at (Create name schema) = (at ≡ place.Setup) × IsNone (place_of tables name) × IsDefinition schema
CanServe tables at (Insert name rows) = IsThere tables name (λ schema. All (IsStorable schema) rows)
CanServe tables at (Select name columns w) = IsThere tables name AnySchema
CanServe tables at (Update name sets w) = IsThere tables name (λ schema. All (IsSettable schema) sets)
CanServe tables at (Delete name w) = IsThere tables name AnySchema
CanServe tables at _ = Unit {0}

-- What of a language lets the machine serve it: a text's meaning depends on the tables' names and columns alone, and on tables
-- as CREATE makes them it is a statement that can be served.
pub record IsServable (language : Language) : Type 0 where
  pub defined : (tables others : List Table) (at : Place) (text : List ℕ)
      → map definition_of tables ≡ map definition_of others → language.meaning tables at text ≡ language.meaning others at text
  pub served : (tables : List Table) (at : Place) (text : List ℕ) → AreDefinitions tables → CanServe tables at (language.meaning tables at text)
