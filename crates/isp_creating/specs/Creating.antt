-- A table made in a kept file: its tree without rows on a page that was free, and its definition behind the last.
use Rattle.std.specs.Prelude.{◌≡◌, ℕ, ◌+◌, ◌<◌, ◌≤◌, false, List, [], ◌∷◌, ◌++◌, length, map}
use Rattle.isp_format.specs.Definition.{most_tables}
use Rattle.isp_format.specs.Ranges.{Contents}
use Rattle.isp_base.specs.declared.page_no.PageNo.{PageNo}
use Rattle.isp_changes.specs.Stages.{with_empty}
use Rattle.isp_catalog.specs.Catalogue.{has_table}
use Rattle.isp_catalog.specs.Limits.{AreColumns, IsName}
use Rattle.isp_catalog.specs.declared.table.TableDef.{TableDef}
use Rattle.isp_space.specs.Spaces.{free_pages}
use Rattle.isp_image.specs.Databases.{Database, FileTable, committed, tables_of}
use Rattle.isp_chained.specs.Chained.{ChainedFile}
use Rattle.isp_chained.specs.Courses.{Step}
use Rattle.isp_undo.specs.Chains.{Chain}

abbrev pub definitions : Database → List TableDef
definitions d = map (λ (t : FileTable). t.def) d.tables

-- what is asked of the new table: a number that a table may have, a name, and columns within the limits
pub record MayDefine (def : TableDef) : Type 0 where
  pub from : 1 ≤ def.number
  pub to : def.number ≤ most_tables
  pub name_is : IsName def.name
  pub columns : AreColumns def.schema.columns

-- the contents are this database with these chains, the number is the next, the name is new, and there is a free page
pub record CanCreate (pages : ℕ) (contents : Contents) (chains : List Chain) (number : ℕ) (name : List ℕ) (d : Database) : Type 0 where
  pub kept : ChainedFile pages contents d chains
  pub next : number ≡ length d.tables + 1
  pub new : has_table (definitions d) name ≡ false
  pub free : 0 < free_pages pages d.space

-- the definition with its tree on that page
abbrev pub with_root : PageNo → TableDef → TableDef
with_root root def = record def { root = root }

-- The contents now are the database with a table of that definition, which has no row; so are the committed tables. The chains stay.
pub record Created (pages : ℕ) (contents : Contents) (chains : List Chain) (def : TableDef) (d : Database) : Type 0 where
  pub after : Database
  pub kept : ChainedFile pages contents after chains
  pub table : FileTable
  pub def_is : table.def ≡ def
  pub empty : table.rows ≡ []
  pub tables : after.tables ≡ d.tables ++ table ∷ []
  pub images : after.images ≡ d.images
  pub now : tables_of after ≡ with_empty (tables_of d) def.name def.schema
  pub same : committed after ≡ with_empty (committed d) def.name def.schema
  pub step : Step d after

-- what the call makes of contents, whatever database and chains they are
pub record Creates (pages : ℕ) (old : Contents) (def : TableDef) (new : Contents) : Type 0 where
  pub makes : (chains : List Chain) (d : Database) → CanCreate pages old chains def.number def.name d → (root : PageNo) × Created pages new chains (with_root root def) d
