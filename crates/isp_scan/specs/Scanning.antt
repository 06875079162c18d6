-- What a statement reads of a table: the rows that aren't marked and of which its condition holds.
use Rattle.std.specs.Prelude.{◌≡◌, ℕ, List, [], ◌∷◌, filter, map, if◌then◌else◌, Option, Some, None}
use Rattle.std.specs.List.{AllByRecursion, list_any}
use Rattle.std.specs.Map.{values_of}
use Rattle.isp_catalog.specs.declared.table.TableDef.{TableDef}
use Rattle.isp_clustered.specs.Leaves.{kept_row_of}
use Rattle.isp_clustered.specs.declared.kept.KeptRow.{KeptRow}
use Rattle.isp_image.specs.Databases.{FileRow, FileTable, shown}
use Rattle.isp_image.specs.Files.{IsFileRow, IsFileTable}
use Rattle.isp_page.specs.declared.pages.Pages.{Ghosts}
use Rattle.isp_plain.specs.Conditions.{holds}
use Rattle.isp_plain.specs.Does.{with_sets}
use Rattle.isp_plain.specs.Values.{key_of}
use Rattle.isp_plain.specs.declared.statement.Assign.{Assign}
use Rattle.isp_plain.specs.declared.statement.Condition.{Condition}
use Rattle.isp_plain.specs.declared.value.Row.{Row}
use Rattle.isp_plain.specs.declared.value.Schema.{Schema}
use Rattle.isp_row.specs.RowSpelling.{IsRowOf, Spells}
use Rattle.isp_work.specs.Finding.{is_too_large}

-- the row, if the condition holds of it
abbrev pub held_of : Condition → Row → List Row
held_of w row = if holds w row then row ∷ [] else []

-- those that aren't marked and of which it does
abbrev pub held_rows : Condition → List FileRow → List Row
held_rows w rows = values_of (filter (λ e. holds w e.1) (shown rows))

-- each is a row of the schema, with its own key
abbrev pub AreRowsOf : Schema → List Row → Type 0
AreRowsOf schema rows = AllByRecursion (λ (row : Row). IsRowOf schema (key_of row) row) rows

-- what stands there is that row, which its bytes spell
pub record IsKeptAs (schema : Schema) (at : KeptRow) (r : FileRow) : Type 0 where
  pub is : at ≡ kept_row_of r.stored
  pub spells : IsFileRow schema r

pub record AreKeptAs (schema : Schema) (leaf : List KeptRow) (rows : List FileRow) : Type 0 where
  pub are : leaf ≡ map (λ (r : FileRow). kept_row_of r.stored) rows
  pub spell : AllByRecursion (IsFileRow schema) rows

-- the store has the table, which is defined so
pub record HasFileTable {S : Type 0} (g : Ghosts S) (now : S) (def : TableDef) (t : FileTable) : Type 0 where
  pub is : t.def ≡ def
  pub table : IsFileTable (g.shape now).pages (g.contents now) def.number t

-- ---- UPDATE

-- the rows with the new values, unless one of them would
abbrev pub updated_or_none : Schema → List Assign → List Row → Option (List Row)
updated_or_none schema sets rows = if list_any (is_too_large schema sets) rows then None else Some (map (with_sets sets) rows)

-- ---- bytes

-- bytes that spell the row under its own key
pub record SpellsRow (schema : Schema) (row : Row) (bytes : List ℕ) : Type 0 where
  pub numbers : List ℕ
  pub spells : Spells schema (key_of row) bytes row numbers
