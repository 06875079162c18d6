-- A file that is open: its database, the definitions of its tables, and what a transaction noted and wrote.
use Rattle.std.specs.Prelude.{◌≡◌, ◌<◌, ℕ, Bool, true, false, List, length, map, slice_get, Some}
use Rattle.isp_catalog.specs.declared.table.TableDef.{TableDef}
use Rattle.isp_changes.specs.Changes.{row_in}
use Rattle.isp_image.specs.Databases.{Database, FileTable, tables_of}
use Rattle.isp_format.specs.Undo.{undo_slots}
use Rattle.isp_undo.specs.Chains.{Chain}
use Rattle.isp_chained.specs.Chained.{ChainedFile, alone}
use Rattle.isp_page.specs.declared.pages.Pages.{Ghosts}
use Rattle.isp_plain.specs.Lined.{is_lined_row}
use Rattle.isp_plain.specs.Values.{key_of}
use Rattle.isp_plain.specs.declared.value.Row.{Row}
use Rattle.isp_trx.specs.Transactions.{TrxState}
use Rattle.isp_trx_laws.specs.Written.{AreWritten}

abbrev pub defs_in : Database → List TableDef
defs_in d = map (λ (t : FileTable). t.def) d.tables

-- The store has the database, with these definitions. The slot of the transaction's session alone has a chain, with as many old rows as
-- the transaction counts, and only at keys that it wrote is a row marked.
pub record IsOpen {S : Type 0} (g : Ghosts S) (now : S) (defs : List TableDef) (trx : TrxState) (d : Database) : Type 0 where
  pub chain : Chain
  pub kept : ChainedFile (g.shape now).pages (g.contents now) d (alone trx.session chain)
  pub slot : trx.session < undo_slots
  pub defs_are : defs_in d ≡ defs
  pub noted : trx.count ≡ length d.images
  pub written : AreWritten trx.keys d

-- the table at that place, from 0, is defined so
pub record IsAtPlace (place : ℕ) (def : TableDef) (d : Database) : Type 0 where
  pub table : FileTable
  pub is_there : slice_get d.tables place ≡ Some table
  pub is : table.def ≡ def

-- the row stands at its key in the table at that place
abbrev pub Stands : ℕ → Row → Database → Type 0
Stands place row d = row_in (tables_of d) place (key_of row) ≡ Some row

-- a row that is to be deleted stands there; one that is to be written has no line feed
abbrev pub IsWritable : Bool → ℕ → Row → Database → Type 0
IsWritable true place row d = Stands place row d
IsWritable false place row d = is_lined_row row ≡ true
