-- What one step of a statement is: one step of its stage, and what is answered of it.
use Rattle.std.specs.Prelude.{◌≡◌, ℕ, ◌+◌, ◌<◌, Bool, true, false, List, [], ◌∷◌, Option, Some, None, if◌then◌else◌}
use Rattle.isp_catalog.specs.declared.table.TableDef.{TableDef}
use Rattle.isp_changes.specs.Changes.{RowChange}
use Rattle.isp_changes.specs.Stages.{Phase, Stage, after_step, asks_room, begun, changing, creating, is_taken, looking, reading, ready, some_outgrow}
use Rattle.isp_image.specs.Databases.{Database, tables_of}
use Rattle.isp_page.specs.declared.pages.Pages.{Ghosts}
use Rattle.isp_plain.specs.Refusals.{number}
use Rattle.isp_plain.specs.Tables.{Table}
use Rattle.isp_plain.specs.declared.refusal.Refusal.{Refusal}
use Rattle.isp_plain.specs.declared.refusal.Refusal.TheVariants.{DuplicateKey, FileFull, RowTooLarge}
use Rattle.isp_plain.specs.declared.statement.Reply.{Reply}
use Rattle.isp_plain.specs.declared.statement.Reply.TheVariants as reply
use Rattle.isp_plain.specs.declared.statement.Statement.{Statement}
use Rattle.isp_space.specs.Spaces.{has_room}
use Rattle.isp_tables.specs.Calls.{IsFlushedIf}
use Rattle.isp_tables.specs.Opened.{IsOpen}
use Rattle.isp_trx.specs.Transactions.{TrxState}
use Rattle.isp_writes.specs.Writing.{DidUndo}
use Rattle.isp_work.specs.declared.found.Changed.{Changed}
use Rattle.isp_work.specs.declared.found.Changed.TheVariants as changed
use Rattle.isp_work.specs.declared.found.Found.{Found}
use Rattle.isp_work.specs.declared.found.Found.TheVariants as found
use Rattle.isp_work.specs.declared.found.Looked.{Looked}
use Rattle.isp_work.specs.declared.found.Looked.TheVariants as looked
use Rattle.isp_work.specs.declared.phase.Phase.TheVariants as phase
use Rattle.isp_work.specs.declared.progress.Progress.{Progress}
use Rattle.isp_exec.specs.Standing.{IsAt, height, stage_in}
use Rattle.isp_exec.specs.declared.step.Step.{Step}
use Rattle.isp_exec.specs.declared.step.Step.TheVariants.{Event, Failing, Ready}

-- ---- what is answered

-- The refusal with which the step turns to taking back: a row would get too large, a key is there already, or there is no room for a
-- change.
abbrev pub refusal_at : Statement → Bool → List Table → Phase → Option Refusal
refusal_at statement room tables (reading place schema read (piece ∷ pieces)) = if some_outgrow schema statement piece then Some RowTooLarge else None
refusal_at statement room tables (looking made (change ∷ left)) = if is_taken tables change then Some (DuplicateKey change.key) else None
refusal_at statement room tables (changing made (change ∷ left)) = if room then None else Some FileFull
refusal_at statement room tables _ = None

abbrev pub event_by : Option Refusal → Step
event_by None = Event
event_by (Some refusal) = Failing (number refusal)

-- the same by what the step finds
abbrev pub refusal_in : Found → Option Refusal
refusal_in (found.Rows rows) = None
refusal_in found.TooLarge = Some RowTooLarge

abbrev pub refusal_of_look : Looked → Option Refusal
refusal_of_look (looked.Taken refusal) = Some refusal
refusal_of_look _ = None

abbrev pub refusal_of_change : Changed → Option Refusal
refusal_of_change changed.Full = Some FileFull
refusal_of_change _ = None

-- CREATE is ready at once, unless it has something to take back
abbrev pub made_answer : Bool → List RowChange → Step
made_answer true noted = Ready reply.Ok
made_answer false [] = Ready (reply.Err FileFull)
made_answer false (image ∷ noted) = Failing (number FileFull)

abbrev pub answer_by : Statement → Bool → List Table → List RowChange → Phase → Step
answer_by statement room tables noted (ready answer) = Ready answer
answer_by statement room tables noted (creating name schema) = made_answer room noted
answer_by statement room tables noted phase = event_by (refusal_at statement room tables phase)

-- what a step of this stage answers, where the file has room for a change, or has none
abbrev pub answer_of : Statement → Bool → Stage → Step
answer_of statement room stage = answer_by statement room stage.tables stage.noted stage.phase

-- the statement goes on
abbrev pub goes_on : Step → Bool
goes_on (Ready answer) = false
goes_on _ = true

-- ---- one step

-- a step after which it goes on leaves fewer
abbrev pub Falls : Progress → TrxState → Progress → TrxState → Step → Type 0
Falls work trx work_now trx_now step = goes_on step ≡ true → height work_now trx_now.count < height work trx.count

-- Where a statement stood so, it now stands one step of its stage further; where the step asks for room, the database had room or had
-- none.
pub record IsNext {S : Type 0} (g : Ghosts S) {old : S} {defs : List TableDef} {trx : TrxState} {start : Database} {work : Progress} (at : IsAt g old defs trx start work) (now : S) (defs_now : List TableDef) (trx_now : TrxState) (work_now : Progress) : Type 0 where
  pub after : IsAt g now defs_now trx_now start work_now
  pub room : Bool
  pub asked : asks_room (stage_in at).phase ≡ true → room ≡ has_room (g.shape now).pages at.db.space
  pub steps : stage_in after ≡ after_step work.statement room (stage_in at)

-- The same, with what the step answered. The statement that is ready stands there before it hands its answer out.
pub record Goes {S : Type 0} (g : Ghosts S) {old : S} {defs : List TableDef} {trx : TrxState} {start : Database} {work : Progress} (at : IsAt g old defs trx start work) (now : S) (defs_now : List TableDef) (trx_now : TrxState) (work_now : Progress) (step : Step) : Type 0 where
  pub work_then : Progress
  pub next : IsNext g at now defs_now trx_now work_then
  pub answered : step ≡ answer_of work.statement next.room (stage_in at)
  pub on : goes_on step ≡ true → work_now ≡ work_then
  pub stated : work_then.statement ≡ work.statement
  pub done : (answer : Reply) → step ≡ Ready answer → (work_then.phase ≡ phase.Ready) × (work_then.reply ≡ answer)

-- a table that was made is there whatever a stop leaves
abbrev pub IsFlushedAt : {S : Type 0} → Ghosts S → S → Step → Type 0
IsFlushedAt g now (Ready reply.Ok) = IsFlushedIf g now true
IsFlushedAt g now _ = Unit {0}

-- ---- ROLLBACK

-- a step of it takes the newest change of the transaction back; where none is left, it is ready
abbrev pub TakesBack : {S : Type 0} → Ghosts S → S → List TableDef → TrxState → Database → Step → Type 0
TakesBack g now defs trx d Event = DidUndo g now defs trx d
TakesBack g now defs trx d (Failing number) = ⊥
TakesBack g now defs trx d (Ready answer) = IsOpen g now defs trx d × (d.images ≡ []) × (answer ≡ reply.Ok)

-- it goes on so
abbrev pub RollsBack : {S : Type 0} → Ghosts S → S → List TableDef → TrxState → Progress → Database → Step → Type 0
RollsBack g now defs trx work d step = TakesBack g now defs trx d step × (work.phase ≡ phase.RollingBack)

-- a step that goes on leaves one less noted
abbrev pub CountsBack : ℕ → ℕ → Step → Type 0
CountsBack count count_now step = goes_on step ≡ true → count ≡ count_now + 1

-- ---- the beginning

-- the statement stands on the database, and nothing is done of it
pub record Begins {S : Type 0} (g : Ghosts S) (now : S) (defs : List TableDef) (trx : TrxState) (d : Database) (work : Progress) : Type 0 where
  pub at : IsAt g now defs trx d work
  pub same : at.db ≡ d
  pub begun_is : stage_in at ≡ begun (tables_of d) work.statement at.pieces.left
