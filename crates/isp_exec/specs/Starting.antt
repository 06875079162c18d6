-- Which statements suit the tables of a file.
use Rattle.std.specs.Prelude.{◌≡◌, ℕ, List, slice_get, Option, Some, None}
use Rattle.std.specs.List.{AllByRecursion}
use Rattle.isp_catalog.specs.declared.table.TableDef.{TableDef}
use Rattle.isp_plain.specs.declared.statement.Statement.{Statement}
use Rattle.isp_plain.specs.declared.statement.Statement.TheVariants.{Create, Insert, Select, Update, Delete}
use Rattle.isp_plain.specs.declared.value.Schema.{Schema}
use Rattle.isp_tables.specs.Creations.{IsNewDefinition}
use Rattle.isp_scan.specs.Readings.{IsPutRow, SetsFit}
use Rattle.isp_tables.specs.TableLists.{place_in}

-- the place of the table that it is on
abbrev pub place_by : List TableDef → Statement → Option ℕ
place_by defs (Insert name rows) = place_in defs name
place_by defs (Select name columns w) = place_in defs name
place_by defs (Update name sets w) = place_in defs name
place_by defs (Delete name w) = place_in defs name
place_by defs _ = None

-- what holds of the columns of the table of that name
abbrev pub OfNamed : List TableDef → List ℕ → (Schema → Type 0) → Type 0
OfNamed defs name P = (place : ℕ) (def : TableDef) → place_in defs name ≡ Some place → slice_get defs place ≡ Some def → P def.schema

-- its rows are rows of its table, and its new values keep rows such
abbrev pub Suits : List TableDef → Statement → Type 0
Suits defs (Create name schema) = IsNewDefinition defs name schema
Suits defs (Insert name rows) = OfNamed defs name (λ schema. AllByRecursion (IsPutRow schema) rows)
Suits defs (Update name sets w) = OfNamed defs name (λ schema. SetsFit schema sets)
Suits defs _ = Unit {0}
