-- What holds of all texts that mean a statement which changes tables.
use Rattle.std.specs.Prelude.{◌≡◌, ℕ, List, Some}
use Rattle.isp_serial.specs.declared.script.Place.{Place}
use Rattle.isp_serial.specs.declared.script.Place.TheVariants as places
use Rattle.isp_plain.specs.declared.statement.Assign.{Assign}
use Rattle.isp_plain.specs.declared.statement.Condition.{Condition}
use Rattle.isp_plain.specs.declared.statement.Statement.TheVariants.{Create, Insert, Update}
use Rattle.isp_plain.specs.declared.value.Row.{Row}
use Rattle.isp_plain.specs.declared.value.Schema.{Schema}
use Rattle.isp_plain.specs.Tables.{Table}
use Rattle.isp_plan.specs.Binding.{schema_named}
use Rattle.isp_plan.specs.Meaning.{definitions, meaning}
use Rattle.isp_bound_rows.specs.Bound.{MakesTable, NamedAt, PutsRows, SetsRows}

abbrev pub InsertPutsRows : Type 0
InsertPutsRows = (tables : List (List ℕ × Schema)) (place : Place) (text name : List ℕ) (rows : List Row) → meaning tables place text ≡ Insert name rows → PutsRows tables name rows

abbrev pub UpdateSetsRows : Type 0
UpdateSetsRows = (tables : List (List ℕ × Schema)) (place : Place) (text name : List ℕ) (sets : List Assign) (w : Condition) → meaning tables place text ≡ Update name sets w → SetsRows tables name sets

abbrev pub CreateMakesTable : Type 0
CreateMakesTable = (tables : List (List ℕ × Schema)) (place : Place) (text name : List ℕ) (schema : Schema) → meaning tables place text ≡ Create name schema → MakesTable tables name schema

-- tables are made in the setup alone
abbrev pub CreateInSetup : Type 0
CreateInSetup = (tables : List (List ℕ × Schema)) (place : Place) (text name : List ℕ) (schema : Schema) → meaning tables place text ≡ Create name schema → place ≡ places.Setup

-- columns that are found by a name are those of the table of that name
abbrev pub NamedStands : Type 0
NamedStands = (tables : List Table) (name : List ℕ) (schema : Schema) → schema_named (definitions tables) name ≡ Some schema → NamedAt tables name schema
