-- What CREATE TABLE makes of a file.
use Rattle.std.specs.Prelude.{◌≡◌, ◌<◌, ℕ, Bool, true, false, List, length}
use Rattle.isp_catalog.specs.Catalogue.{has_table}
use Rattle.isp_catalog.specs.Limits.{AreColumns, IsName}
use Rattle.isp_catalog.specs.declared.table.TableDef.{TableDef}
use Rattle.isp_changes.specs.Stages.{with_empty}
use Rattle.isp_format.specs.Definition.{most_tables}
use Rattle.isp_chained.specs.Courses.{Reaches}
use Rattle.isp_image.specs.Databases.{Database, tables_of}
use Rattle.isp_page.specs.declared.pages.Pages.{Ghosts}
use Rattle.isp_plain.specs.declared.statement.Statement.{Statement}
use Rattle.isp_plain.specs.declared.statement.Statement.TheVariants.{Create}
use Rattle.isp_plain.specs.declared.value.Schema.{Schema}
use Rattle.isp_space.specs.Spaces.{has_room}
use Rattle.isp_trx.specs.Transactions.{TrxState}
use Rattle.isp_tables.specs.Opened.{IsOpen}

-- a table of that name and these columns may be added behind these
pub record IsNewDefinition (defs : List TableDef) (name : List ℕ) (schema : Schema) : Type 0 where
  pub new : has_table defs name ≡ false
  pub few : length defs < most_tables
  pub name_is : IsName name
  pub columns : AreColumns schema.columns

abbrev pub IsCreatable : List TableDef → Statement → Type 0
IsCreatable defs (Create name schema) = IsNewDefinition defs name schema
IsCreatable defs _ = ⊥

abbrev pub HasRoom : {S : Type 0} → Ghosts S → S → Database → Type 0
HasRoom g now d = has_room (g.shape now).pages d.space ≡ true

-- There was room, the table was added without rows, and nothing else changed.
pub record DidCreate {S : Type 0} (g : Ghosts S) (now : S) (defs : List TableDef) (trx : TrxState) (name : List ℕ) (schema : Schema) (d : Database) : Type 0 where
  pub room : HasRoom g now d
  pub after : Database
  pub opened : IsOpen g now defs trx after
  pub images : after.images ≡ d.images
  pub tables : tables_of after ≡ with_empty (tables_of d) name schema
  pub reaches : Reaches (g.shape now).pages d after

-- it was, or there was no room, and nothing changed
abbrev pub CreatesOrFull : {S : Type 0} → Ghosts S → S → List TableDef → TrxState → List ℕ → Schema → Database → Bool → Type 0
CreatesOrFull g now defs trx name schema d true = DidCreate g now defs trx name schema d
CreatesOrFull g now defs trx name schema d false = IsOpen g now defs trx d × (has_room (g.shape now).pages d.space ≡ false)

abbrev pub MakesOrFull : {S : Type 0} → Ghosts S → S → List TableDef → TrxState → Statement → Database → Bool → Type 0
MakesOrFull g now defs trx (Create name schema) d made = CreatesOrFull g now defs trx name schema d made
MakesOrFull g now defs trx _ d made = ⊥
