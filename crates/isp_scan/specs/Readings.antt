-- What a statement finds in its table, from the table's rows.
use Rattle.std.specs.Prelude.{◌≤◌, ℤ, List}
use Rattle.std.specs.List.{AllByRecursion}
use Rattle.isp_plain.specs.Does.{with_sets}
use Rattle.isp_plain.specs.RowBytes.{row_bytes, row_limit}
use Rattle.isp_plain.specs.Values.{key_of}
use Rattle.isp_plain.specs.declared.statement.Assign.{Assign}
use Rattle.isp_plain.specs.declared.statement.Statement.{Statement}
use Rattle.isp_plain.specs.declared.statement.Statement.TheVariants.{Update}
use Rattle.isp_plain.specs.declared.value.Row.{Row}
use Rattle.isp_plain.specs.declared.value.Schema.{Schema}
use Rattle.isp_row.specs.RowSpelling.{IsRowOf}
use Rattle.isp_work.specs.declared.found.Found.{Found}
use Rattle.isp_work.specs.declared.found.Found.TheVariants.{Rows}

-- a row of the schema with no more bytes than a row may have
pub record IsPutRow (schema : Schema) (row : Row) : Type 0 where
  pub is_row : IsRowOf schema (key_of row) row
  pub small : row_bytes schema row ≤ row_limit

-- the new values leave rows of the schema such, with their keys
abbrev pub SetsFit : Schema → List Assign → Type 0
SetsFit schema sets = (key : ℤ) (row : Row) → IsRowOf schema key row → IsRowOf schema key (with_sets sets row)

abbrev pub SetsFitIn : Schema → Statement → Type 0
SetsFitIn schema (Update name sets w) = SetsFit schema sets
SetsFitIn schema _ = Unit {0}

-- the rows that were found can be written
abbrev pub AreFoundNew : Schema → Found → Type 0
AreFoundNew schema (Rows rows) = AllByRecursion (IsPutRow schema) rows
AreFoundNew schema _ = Unit {0}

-- those of UPDATE can
abbrev pub AreFoundFor : Schema → Statement → Found → Type 0
AreFoundFor schema (Update name sets w) found = AreFoundNew schema found
AreFoundFor schema _ found = Unit {0}
