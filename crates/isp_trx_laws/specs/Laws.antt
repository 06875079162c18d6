-- Laws of transactions on a kept file: the keys that are written, and a statement's steps.
use Rattle.std.specs.Prelude.{◌≡◌, ℕ, Bool, true, List, [], ◌∷◌, ◌++◌}
use Rattle.std.specs.List.Sorted.{IsPermutation}
use Rattle.isp_format.specs.Ranges.{Contents}
use Rattle.isp_plain.specs.declared.refusal.Refusal.{Refusal}
use Rattle.isp_plain.specs.declared.statement.Statement.{Statement}
use Rattle.isp_plain.specs.declared.value.Row.{Row}
use Rattle.isp_catalog.specs.declared.table.TableDef.{TableDef}
use Rattle.isp_changes.specs.Changes.{RowChange}
use Rattle.isp_changes.specs.Stages.{Phase, Stage, after_step, changing, creating, stage_at, undoing}
use Rattle.isp_image.specs.Databases.{Database, FileImage, FileTable, HasNoMarked, tables_of}
use Rattle.isp_undo.specs.Chains.{Chain}
use Rattle.isp_chained.specs.Chained.{ChainedFile, alone}
use Rattle.isp_creating.specs.Creating.{Created}
use Rattle.isp_trx.specs.Writes.{AreRoots, CanSweep, CanWrite, DidCommit, SweptAll, Undid, Write, Wrote, change_of}
use Rattle.isp_trx.specs.declared.keys.RowKey.{RowKey}
use Rattle.isp_trx_laws.specs.FileStages.{IsStageOf}
use Rattle.isp_trx_laws.specs.Written.{AreWritten}

-- ---- written keys

-- a file at rest has none
abbrev pub NoneWritten : Type 0
NoneWritten = (d : Database) → d.images ≡ [] → HasNoMarked d → AreWritten [] d

-- a row that is written adds its key; one that is put back, a commit and a table more add none
abbrev pub WriteAddsKey : Type 0
WriteAddsKey = (pages : ℕ) (old new : Contents) (chains : List Chain) (slot : ℕ) (chain : Chain) (keys : List RowKey) (w : Write) (d : Database) (t : FileTable) (row : Row) → CanWrite pages old chains slot chain w d t row → AreWritten keys d
    → (s : Wrote pages new chains slot chain w row d) → AreWritten (keys ++ w.at ∷ []) s.after

abbrev pub UndoAddsNone : Type 0
UndoAddsNone = (pages : ℕ) (new : Contents) (chains : List Chain) (slot : ℕ) (chain : Chain) (keys : List RowKey) (d : Database) → AreWritten keys d → (s : Undid pages new chains slot chain d) → AreWritten keys s.after

abbrev pub CommitAddsNone : Type 0
CommitAddsNone = (pages : ℕ) (new : Contents) (chains : List Chain) (slot : ℕ) (chain : Chain) (keys : List RowKey) (d : Database) → AreWritten keys d → (s : DidCommit pages new chains slot chain d) → AreWritten keys s.after

abbrev pub CreateAddsNone : Type 0
CreateAddsNone = (pages : ℕ) (new : Contents) (chains : List Chain) (keys : List RowKey) (def : TableDef) (d : Database) → AreWritten keys d → (s : Created pages new chains def d) → AreWritten keys s.after

-- where no old row is noted any more the keys may be swept, and then no row is marked
abbrev pub WrittenMaySweep : Type 0
WrittenMaySweep = (pages : ℕ) (contents : Contents) (chains : List Chain) (roots : List ℕ) (keys : List RowKey) (d : Database) → ChainedFile pages contents d chains → AreRoots roots d → d.images ≡ [] → AreWritten keys d → CanSweep pages contents chains roots keys d

abbrev pub SweepLeavesNone : Type 0
SweepLeavesNone = (pages : ℕ) (new : Contents) (chains : List Chain) (keys : List RowKey) (d : Database) → AreWritten keys d → (s : SweptAll pages new chains keys d) → HasNoMarked s.swept.after

-- the order of the keys doesn't matter
abbrev pub WrittenInAnyOrder : Type 0
WrittenInAnyOrder = (keys others : List RowKey) (d : Database) → IsPermutation keys others → AreWritten keys d → AreWritten others d

-- ---- a statement's steps

-- nothing is noted yet, whatever comes next
abbrev pub StageBegins : Type 0
StageBegins = (d : Database) (phase : Phase) → IsStageOf d.images d (stage_at (tables_of d) [] phase)

-- a change of a row, written in a file in which the slot alone has a chain
abbrev pub StageWrites : Type 0
StageWrites = (pages : ℕ) (new : Contents) (slot : ℕ) (chain : Chain) (before : List FileImage) (w : Write) (row : Row) (d : Database) (statement : Statement) (stage : Stage) (made : ℕ) (left : List RowChange)
    → IsStageOf before d stage → stage.phase ≡ changing made (change_of w row ∷ left) → (s : Wrote pages new (alone slot chain) slot chain w row d) → IsStageOf before s.after (after_step statement true stage)

-- the newest image put back, in the file
abbrev pub StageUndoes : Type 0
StageUndoes = (pages : ℕ) (new : Contents) (slot : ℕ) (chain : Chain) (before : List FileImage) (d : Database) (statement : Statement) (room : Bool) (stage : Stage) (refusal : Refusal) (image : RowChange) (noted : List RowChange)
    → IsStageOf before d stage → stage.phase ≡ undoing refusal → stage.noted ≡ image ∷ noted → (s : Undid pages new (alone slot chain) slot chain d) → IsStageOf before s.after (after_step statement room stage)

-- a table more
abbrev pub StageCreates : Type 0
StageCreates = (pages : ℕ) (new : Contents) (chains : List Chain) (before : List FileImage) (def : TableDef) (d : Database) (statement : Statement) (stage : Stage)
    → IsStageOf before d stage → stage.phase ≡ creating def.name def.schema → (s : Created pages new chains def d) → IsStageOf before s.after (after_step statement true stage)
