-- What becomes of the next change of a statement.
use Rattle.std.specs.Prelude.{◌≡◌, true, false, List, Option, Some, None, IfSome}
use Rattle.isp_catalog.specs.declared.table.TableDef.{TableDef}
use Rattle.isp_changes.specs.Changes.{RowChange}
use Rattle.isp_image.specs.Databases.{Database}
use Rattle.isp_page.specs.declared.pages.Pages.{Ghosts}
use Rattle.isp_trx.specs.Transactions.{TrxState}
use Rattle.isp_tables.specs.Opened.{IsOpen, IsWritable}
use Rattle.isp_writes.specs.Causes.{IsFull}
use Rattle.isp_writes.specs.Writing.{DidWrite, Notes}
use Rattle.isp_work.specs.Works.{is_delete, next_row}
use Rattle.isp_work.specs.declared.found.Changed.{Changed}
use Rattle.isp_work.specs.declared.found.Changed.TheVariants.{Over, Done, Full}
use Rattle.isp_work.specs.declared.progress.Progress.{Progress}

-- the next change, if one is left, was made, or there was no room, and nothing changed
abbrev pub ChangesOrFull : {S : Type 0} → Ghosts S → S → List TableDef → TrxState → Option RowChange → Database → Changed → Type 0
ChangesOrFull g now defs trx None d done = IsOpen g now defs trx d × (done ≡ Over)
ChangesOrFull g now defs trx (Some change) d Over = ⊥
ChangesOrFull g now defs trx (Some change) d Done = DidWrite g now defs trx change d
ChangesOrFull g now defs trx (Some change) d Full = IsOpen g now defs trx d × IsFull (g.shape now).pages d

-- a row was left
abbrev pub IsNotEnd : Changed → Type 0
IsNotEnd Over = ⊥
IsNotEnd _ = Unit {0}

abbrev pub ChangeNotes : TrxState → TrxState → Changed → Type 0
ChangeNotes trx trx_now Done = Notes trx trx_now true
ChangeNotes trx trx_now _ = Notes trx trx_now false

abbrev pub IsNextWritable : Progress → Database → Type 0
IsNextWritable work d = IfSome (next_row work) (λ row. IsWritable (is_delete work.statement) work.place row d)
