-- What a text that means a statement puts into a file: rows that have a spelling there, and tables that have a definition.
use Rattle.std.specs.Prelude.{◌≡◌, ◌<◌, ◌≤◌, ℕ, ℤ, false, true, List, length, slice_get, Some}
use Rattle.std.specs.List.{AllByRecursion}
use Rattle.isp_format.specs.Definition.{most_tables}
use Rattle.isp_plain.specs.declared.statement.Assign.{Assign}
use Rattle.isp_plain.specs.declared.value.Row.{Row}
use Rattle.isp_plain.specs.declared.value.Schema.{Schema}
use Rattle.isp_plain.specs.Does.{place_of, with_sets}
use Rattle.isp_plain.specs.Lined.{is_lined_row}
use Rattle.isp_plain.specs.RowBytes.{row_bytes, row_limit}
use Rattle.isp_plain.specs.Tables.{Table}
use Rattle.isp_plain.specs.Values.{key_of}
use Rattle.isp_plan.specs.Binding.{is_table, schema_named}
use Rattle.isp_row.specs.RowSpelling.{IsRowOf}
use Rattle.isp_catalog.specs.Limits.{AreColumns, IsName, has_key}

-- one of these columns, with no more row bytes than a row may have and texts on one line
pub record IsNewRow (schema : Schema) (row : Row) : Type 0 where
  pub is_row : IsRowOf schema (key_of row) row
  pub small : row_bytes schema row ≤ row_limit
  pub lined : is_lined_row row ≡ true

-- the table is there, and each row is one of it, where its first column has the keys
pub record PutsRows (tables : List (List ℕ × Schema)) (name : List ℕ) (rows : List Row) : Type 0 where
  pub schema : Schema
  pub there : schema_named tables name ≡ Some schema
  pub each : has_key schema.columns ≡ true → AllByRecursion (IsNewRow schema) rows

-- the table is there, and what was a row of it is one with the new values, under the same key; texts on one line stay so
pub record SetsRows (tables : List (List ℕ × Schema)) (name : List ℕ) (sets : List Assign) : Type 0 where
  pub schema : Schema
  pub there : schema_named tables name ≡ Some schema
  pub rows : (key : ℤ) (row : Row) → IsRowOf schema key row → IsRowOf schema key (with_sets sets row)
  pub lined : (row : Row) → is_lined_row row ≡ true → is_lined_row (with_sets sets row) ≡ true

-- no table has the name, there is room in the catalogue, and name and columns are within the limits of a definition
pub record MakesTable (tables : List (List ℕ × Schema)) (name : List ℕ) (schema : Schema) : Type 0 where
  pub new : is_table tables name ≡ false
  pub few : length tables < most_tables
  pub name_is : IsName name
  pub columns : AreColumns schema.columns

-- the table of that name stands at this place, and has these columns
pub record NamedAt (tables : List Table) (name : List ℕ) (schema : Schema) : Type 0 where
  pub place : ℕ
  pub place_is : place_of tables name ≡ Some place
  pub table : Table
  pub is_there : slice_get tables place ≡ Some table
  pub schema_is : table.schema ≡ schema
