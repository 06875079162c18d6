-- A statement on its way, on a file: what is known of it whatever the pages hold, and where it stands on a database.
use Rattle.std.specs.Prelude.{◌≡◌, ℕ, ◌+◌, ◌-◌, ◌*◌, ◌^◌, ◌<◌, ◌≤◌, ℤ, Bool, true, false, List, [], ◌∷◌, length, map, slice_get, Option, Some, None, IfSome, if◌then◌else◌}
use Rattle.std.specs.List.{AllByRecursion}
use Rattle.isp_base.specs.declared.page_no.PageNo.{PageNo}
use Rattle.isp_catalog.specs.declared.table.TableDef.{TableDef}
use Rattle.isp_changes.specs.Changes.{RowChange, found_at}
use Rattle.isp_changes.specs.Rows.{AreRising}
use Rattle.isp_changes.specs.Stages.{IsOnTheWay, Stage, found_full, is_insert, outcome_of}
use Rattle.isp_chained.specs.Courses.{Reaches}
use Rattle.isp_image.specs.Databases.{Database, FileTable, shown, tables_of}
use Rattle.isp_page.specs.declared.pages.Pages.{Ghosts}
use Rattle.isp_plain.specs.Does.{does}
use Rattle.isp_plain.specs.Lined.{is_lined_row, is_lined_statement}
use Rattle.isp_plain.specs.Values.{key_of}
use Rattle.isp_plain.specs.declared.statement.Statement.{Statement}
use Rattle.isp_plain.specs.declared.value.Row.{Row}
use Rattle.isp_plain.specs.declared.value.Schema.{Schema}
use Rattle.isp_trx.specs.Transactions.{TrxState}
use Rattle.isp_trx_laws.specs.FileStages.{IsStageOf}
use Rattle.isp_writes.specs.Causes.{FillsUp}
use Rattle.isp_tables.specs.Creations.{IsCreatable}
use Rattle.isp_tables.specs.Opened.{IsOpen, Stands}
use Rattle.isp_scan.specs.Keys.{named_key}
use Rattle.isp_scan.specs.Leaves.{HasPiece, IsBehind, IsLeafFound, Piece, leaf_pieces}
use Rattle.isp_scan.specs.Readings.{AreFoundFor, IsPutRow, SetsFitIn}
use Rattle.isp_scan.specs.declared.leaves.LeafFound.{LeafFound}
use Rattle.isp_work.specs.Finding.{reads}
use Rattle.isp_work.specs.Works.{AreReadAs, AreReadOf, Pieces, is_delete, rows_left, rows_named, stage_of}
use Rattle.isp_work.specs.declared.found.Found.TheVariants as found
use Rattle.isp_work.specs.declared.phase.Phase.{Phase as WorkPhase}
use Rattle.isp_work.specs.declared.phase.Phase.TheVariants.{Creating, Reading, Looking, Changing, Undoing, RollingBack, Ready}
use Rattle.isp_work.specs.declared.progress.Progress.{Progress}

-- ---- whatever the pages hold

-- the table at its place is defined so; the page that it read last lies in a file of so many
pub record IsReading (pages : ℕ) (defs : List TableDef) (work : Progress) : Type 0 where
  pub def : TableDef
  pub is_there : slice_get defs work.place ≡ Some def
  pub reads_rows : reads work.statement ≡ true
  pub first : work.next ≡ 0
  pub sets : SetsFitIn def.schema work.statement
  pub rows : AreFoundFor def.schema work.statement (found.Rows work.rows)
  pub after : IfSome work.after (λ page. page.0 < pages)

pub record IsLooking (defs : List TableDef) (work : Progress) : Type 0 where
  pub def : TableDef
  pub is_there : slice_get defs work.place ≡ Some def
  pub inserts : is_insert work.statement ≡ true
  pub rows : AllByRecursion (IsPutRow def.schema) (rows_named work.statement work.rows)

-- rows that are deleted need not be spelled
pub record IsChanging (defs : List TableDef) (work : Progress) : Type 0 where
  pub def : TableDef
  pub is_there : slice_get defs work.place ≡ Some def
  pub rows : is_delete work.statement ≡ false → AllByRecursion (IsPutRow def.schema) (rows_named work.statement work.rows)

abbrev pub IsFitIn : ℕ → List TableDef → Progress → WorkPhase → Type 0
IsFitIn pages defs work Creating = IsCreatable defs work.statement
IsFitIn pages defs work Reading = IsReading pages defs work
IsFitIn pages defs work Looking = IsLooking defs work
IsFitIn pages defs work Changing = IsChanging defs work
IsFitIn pages defs work (Undoing refusal) = Unit {0}
IsFitIn pages defs work RollingBack = work.base ≡ 0
IsFitIn pages defs work Ready = Unit {0}

-- what it is to read and to write fits the columns of its table; a ROLLBACK takes back all that is noted
abbrev pub IsFit : ℕ → List TableDef → Progress → Type 0
IsFit pages defs work = IsFitIn pages defs work work.phase

-- ---- how many steps are left at most

-- more than three for each row that memory can hold
abbrev pub most_rows : ℕ
most_rows = 2 ^ 70

abbrev pub height_in : Progress → ℕ → WorkPhase → ℕ
height_in work noted Creating = noted + 2
height_in work noted Reading = most_rows + work.budget + noted
height_in work noted Looking = 3 * length (rows_left work) + noted + 3
height_in work noted Changing = 3 * length (rows_left work) + noted + 2
height_in work noted (Undoing refusal) = noted + 1
height_in work noted RollingBack = noted + 1
height_in work noted Ready = 0

-- where so many changes are noted
abbrev pub height : Progress → ℕ → ℕ
height work noted = height_in work (noted - work.base) work.phase

-- ---- on a database

-- rows that are to be deleted stand there, with keys that rise
pub record AreDeletable (place : ℕ) (rows : List Row) (d : Database) : Type 0 where
  pub each : AllByRecursion (λ (row : Row). Stands place row d) rows
  pub rise : AreRising (map (λ (row : Row). (key_of row, row)) rows)

-- the rows can be written; those that are to be put have no line feed
abbrev pub AreWritable : Bool → ℕ → List Row → Database → Type 0
AreWritable true place rows d = AreDeletable place rows d
AreWritable false place rows d = AllByRecursion (λ (row : Row). is_lined_row row ≡ true) rows

-- rows are written in this phase
abbrev pub writes : WorkPhase → Bool
writes Looking = true
writes Changing = true
writes _ = false

-- the rows that are left can be written, where they come next
abbrev pub AreWritableNow : Progress → Database → Type 0
AreWritableNow work d = writes work.phase ≡ true → AreWritable (is_delete work.statement) work.place (rows_left work) d

-- It leads to what the statement does on the tables that it began on, or to a full file, which is one for its cause.
pub record Leads (pages : ℕ) (start d : Database) (statement : Statement) (stage : Stage) : Type 0 where
  pub full : Bool
  pub leads : outcome_of statement (tables_of start) stage ≡ (if full then found_full (tables_of start) else does (tables_of start) statement)
  pub cause : full ≡ true → FillsUp pages start d

-- the pieces of its table that a statement reads: the row of the key that its condition names, or all leaves
abbrev pub pieces_by : Option ℤ → FileTable → List Piece
pieces_by (Some key) t = found_at (shown t.rows) key ∷ []
pieces_by None t = leaf_pieces t

abbrev pub pieces_of : FileTable → Statement → List Piece
pieces_of t statement = pieces_by (named_key t.def statement) t

-- those that are left where it has read none; where it has read the leaf on this page
abbrev pub IsLeft : FileTable → Statement → Option PageNo → List Piece → Type 0
IsLeft t statement None left = left ≡ pieces_of t statement
IsLeft t statement (Some page) left = IsBehind t (Some page.0) left

-- this is found in the first of the pieces that are left
abbrev pub IsFoundBehind : Schema → Statement → FileTable → List Piece → LeafFound → Type 0
IsFoundBehind schema statement t [] leaf = Unit {0}
IsFoundBehind schema statement t (piece ∷ left) leaf = IsLeafFound schema statement t piece left leaf

-- The statement has read its table so far: what it keeps are the rows read, the first of those that hold, and of the leaves that are
-- left, one at least, it may read all.
pub record HasRead (d : Database) (work : Progress) (pieces : Pieces) : Type 0 where
  pub table : FileTable
  pub is_there : slice_get d.tables work.place ≡ Some table
  pub kept : AreReadAs work.statement pieces.read work.rows
  pub whole : AreReadOf work.statement (shown table.rows) pieces
  pub more : HasPiece pieces.left
  pub left : IsLeft table work.statement work.after pieces.left
  pub few : length pieces.left ≤ work.budget + 1

-- The statement, begun on a database, stands on another one on the way from it, on its own way to what it does.
pub record IsAt {S : Type 0} (g : Ghosts S) (now : S) (defs : List TableDef) (trx : TrxState) (start : Database) (work : Progress) : Type 0 where
  pub db : Database
  pub opened : IsOpen g now defs trx db
  pub reaches : Reaches (g.shape now).pages start db
  pub base : work.base ≡ length start.images
  pub noted : List RowChange
  pub pieces : Pieces
  pub stage : IsStageOf start.images db (stage_of (tables_of db) noted pieces work)
  pub way : IsOnTheWay work.statement (tables_of start) (stage_of (tables_of db) noted pieces work)
  pub leads : Leads (g.shape now).pages start db work.statement (stage_of (tables_of db) noted pieces work)
  pub lined : is_lined_statement work.statement ≡ true
  pub read : work.phase ≡ Reading → HasRead db work pieces
  pub writable : AreWritableNow work db
  -- a ROLLBACK takes back more than what a statement does
  pub other : work.phase ≡ RollingBack → ⊥

-- where it stands, as a stage of plain tables
abbrev pub stage_in : {S : Type 0} {g : Ghosts S} {now : S} {defs : List TableDef} {trx : TrxState} {start : Database} {work : Progress} → IsAt g now defs trx start work → Stage
stage_in {work = work} at = stage_of (tables_of at.db) at.noted at.pieces work
