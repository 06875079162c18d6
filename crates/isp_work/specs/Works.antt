-- Where a statement stands that goes on step by step, as a stage of plain tables.
use Rattle.std.specs.Prelude.{◌≡◌, ℕ, ◌+◌, ◌-◌, ◌^◌, ◌<◌, ◌≤◌, ℤ, Bool, true, false, is_some, nat_lt, List, [], ◌∷◌, ◌++◌, drop, length, map, slice_get, if◌then◌else◌, Option, Some, None}
use Rattle.std.specs.List.{AllByRecursion}
use Rattle.std.specs.Map.{values_of}
use Rattle.std.specs.Option.{option_map}
use Rattle.isp_base.specs.declared.page_no.PageNo.{PageNo}
use Rattle.isp_changes.specs.Changes.{RowChange, held, joined, replacing}
use Rattle.isp_changes.specs.Rows.{AreKeyed, row_at}
use Rattle.isp_changes.specs.Stages.{Phase, Stage, changing, creating, is_insert, looking, reading, ready, stage_at, undoing}
use Rattle.isp_plain.specs.declared.refusal.Refusal.{Refusal}
use Rattle.isp_plain.specs.declared.refusal.Refusal.TheVariants.{DuplicateKey, FileFull, RowTooLarge}
use Rattle.isp_plain.specs.declared.statement.Reply.{Reply}
use Rattle.isp_plain.specs.declared.statement.Reply.TheVariants as reply
use Rattle.isp_plain.specs.declared.statement.Statement.{Statement}
use Rattle.isp_plain.specs.declared.statement.Statement.TheVariants.{Create, Delete, Insert, Rollback, Select, Update}
use Rattle.isp_plain.specs.declared.value.Row.{Row}
use Rattle.isp_plain.specs.declared.value.Schema.{Schema}
use Rattle.isp_plain.specs.Does.{cut, with_sets}
use Rattle.isp_plain.specs.Tables.{Table}
use Rattle.isp_plain.specs.Values.{key_of}
use Rattle.isp_work.specs.declared.phase.Phase.{Phase as WorkPhase}
use Rattle.isp_work.specs.declared.phase.Phase.TheVariants.{Creating, Reading, Looking, Changing, Undoing, RollingBack, Ready}
use Rattle.isp_work.specs.declared.found.Found.{Found}
use Rattle.isp_work.specs.declared.found.Found.TheVariants as found
use Rattle.isp_work.specs.declared.found.Changed.{Changed}
use Rattle.isp_work.specs.declared.found.Changed.TheVariants as changed
use Rattle.isp_work.specs.declared.found.Looked.{Looked}
use Rattle.isp_work.specs.declared.found.Looked.TheVariants as looked
use Rattle.isp_work.specs.declared.progress.Progress.{Progress}

-- ---- the changes that are left

abbrev pub is_delete : Statement → Bool
is_delete (Delete name w) = true
is_delete _ = false

-- the row is written at its key; or taken out
abbrev pub change_by : Bool → ℕ → Row → RowChange
change_by deletes place row = replacing place (key_of row) (if deletes then None else Some row)

-- INSERT has its rows, other statements those that they read
abbrev pub rows_named : Statement → List Row → List Row
rows_named (Insert name rows) read = rows
rows_named statement read = read

abbrev pub rows_left : Progress → List Row
rows_left work = drop work.next (rows_named work.statement work.rows)

abbrev pub changes_ahead : Progress → List RowChange
changes_ahead work = map (change_by (is_delete work.statement) work.place) (rows_left work)

-- ---- what is read

-- what was read of the table so far, the rows that hold, and the pieces of it that are left
pub record Pieces : Type 0 where
  pub read : List (ℤ × Row)
  pub left : List (List (ℤ × Row))

-- none of them is read
abbrev pub all_left : List (List (ℤ × Row)) → Pieces
all_left left = record { read = []; left = left }

-- one more of these is read
abbrev pub behind_first : Statement → List (ℤ × Row) → List (List (ℤ × Row)) → Pieces
behind_first statement read [] = record { read = read; left = [] }
behind_first statement read (piece ∷ left) = record { read = read ++ held statement piece; left = left }

abbrev pub behind_piece : Pieces → Statement → Pieces
behind_piece pieces statement = behind_first statement pieces.read pieces.left

-- the rows that were read, and those that hold in the pieces left, are all of these that hold
abbrev pub AreReadOf : Statement → List (ℤ × Row) → Pieces → Type 0
AreReadOf statement rows pieces = pieces.read ++ held statement (joined pieces.left) ≡ held statement rows

-- what is kept of the rows that were read: the columns of the answer; the rows with their new values, which have the same keys; or
-- the rows
abbrev pub AreReadAs : Statement → List (ℤ × Row) → List Row → Type 0
AreReadAs (Select name columns w) read rows = rows ≡ map (cut columns) (values_of read)
AreReadAs (Update name sets w) read rows = (rows ≡ map (with_sets sets) (values_of read)) × AllByRecursion (λ e. key_of (with_sets sets e.1) ≡ e.0) read
AreReadAs (Delete name w) read rows = (rows ≡ values_of read) × AreKeyed read
AreReadAs _ read rows = Unit {0}

-- ---- the phase

abbrev pub schema_in : Option Table → Schema
schema_in (Some table) = table.schema
schema_in None = record { columns = [] }

abbrev pub creating_by : Statement → Phase
creating_by (Create name schema) = creating name schema
creating_by _ = ready reply.Ok

abbrev pub reading_at : ℕ → Option Table → Pieces → Phase
reading_at place table pieces = reading place (schema_in table) pieces.read pieces.left

abbrev pub phase_at : List Table → Pieces → Progress → WorkPhase → Phase
phase_at tables pieces work Creating = creating_by work.statement
phase_at tables pieces work Reading = reading_at work.place (slice_get tables work.place) pieces
phase_at tables pieces work Looking = looking work.next (changes_ahead work)
phase_at tables pieces work Changing = changing work.next (changes_ahead work)
phase_at tables pieces work (Undoing refusal) = undoing refusal
phase_at tables pieces work RollingBack = ready reply.Ok
phase_at tables pieces work Ready = ready work.reply

-- on these tables, with what it noted, and what it read of its table
abbrev pub stage_of : List Table → List RowChange → Pieces → Progress → Stage
stage_of tables noted pieces work = stage_at tables noted (phase_at tables pieces work work.phase)

-- ---- how it goes on

abbrev pub is_rollback : Statement → Bool
is_rollback Rollback = true
is_rollback _ = false

abbrev pub is_ready : WorkPhase → Bool
is_ready Ready = true
is_ready _ = false

-- nothing is done of it
abbrev pub started : Statement → ℕ → ℕ → ℕ → WorkPhase → Reply → Progress
started statement place base budget phase answer =
    record { statement = statement; place = place; rows = []; next = 0; after = None; budget = budget; base = base; phase = phase; reply = answer }

-- it has this answer
abbrev pub answered : Progress → Reply → Progress
answered work answer = record work { phase = Ready; reply = answer }

-- the key comes first where it has to be free
abbrev pub first_of : Bool → WorkPhase
first_of free = if free then Looking else Changing

-- the next row, or the answer
abbrev pub went_on : Progress → Progress
went_on work =
    if nat_lt work.next (length (rows_named work.statement work.rows)) then record work { phase = first_of (is_insert work.statement) }
    else answered work (reply.Count work.next)

-- it fails, where so many changes are noted
abbrev pub failed_by : Progress → Refusal → ℕ → Progress
failed_by work refusal noted = if nat_lt work.base noted then record work { phase = Undoing refusal } else answered work (reply.Err refusal)

abbrev pub made_by : Progress → Bool → ℕ → Progress
made_by work made noted = if made then answered work reply.Ok else failed_by work FileFull noted

abbrev pub is_select : Statement → Bool
is_select (Select name columns w) = true
is_select _ = false

-- all is read: the rows are the answer, or what is written
abbrev pub read_out : Progress → Progress
read_out work = if is_select work.statement then answered (record work { rows = [] }) (reply.Rows work.rows) else went_on work

-- where a leaf stands behind the one on this page, it comes next
abbrev pub read_by : Option PageNo → Progress → Progress
read_by (Some page) work = record work { after = Some page; budget = work.budget - 1 }
read_by None work = read_out work

abbrev pub took : Progress → Found → Option PageNo → ℕ → Progress
took work (found.Rows rows) next noted = read_by next (record work { rows = work.rows ++ rows })
took work found.TooLarge next noted = failed_by work RowTooLarge noted

abbrev pub looked_by : Progress → Looked → ℕ → Progress
looked_by work looked.Over noted = went_on work
looked_by work looked.Free noted = record work { phase = Changing }
looked_by work (looked.Taken refusal) noted = failed_by work refusal noted

abbrev pub passed : Progress → Progress
passed work = went_on (record work { next = work.next + 1 })

abbrev pub changed_by : Progress → Changed → ℕ → Progress
changed_by work changed.Over noted = went_on work
changed_by work changed.Done noted = passed work
changed_by work changed.Full noted = failed_by work FileFull noted

-- ---- what its steps find

abbrev pub next_row : Progress → Option Row
next_row work = slice_get (rows_named work.statement work.rows) work.next

abbrev pub next_change : Progress → Option RowChange
next_change work = option_map (change_by (is_delete work.statement) work.place) (next_row work)

-- it is over only where no row is left
abbrev pub IsLookOf : Progress → Looked → Type 0
IsLookOf work looked.Over = length (rows_named work.statement work.rows) ≤ work.next
IsLookOf work _ = Unit {0}

abbrev pub IsNotOver : Looked → Type 0
IsNotOver looked.Over = ⊥
IsNotOver _ = Unit {0}

abbrev pub IsChangeOf : Progress → Changed → Type 0
IsChangeOf work changed.Over = length (rows_named work.statement work.rows) ≤ work.next
IsChangeOf work changed.Done = work.next < length (rows_named work.statement work.rows)
IsChangeOf work changed.Full = Unit {0}

-- what a look at a key finds among the rows of its table
abbrev pub look_of : Row → List (ℤ × Row) → Looked
look_of row rows = if is_some (row_at rows (key_of row)) then looked.Taken (DuplicateKey (key_of row)) else looked.Free

abbrev pub look_by : Option Row → List (ℤ × Row) → Looked
look_by None rows = looked.Over
look_by (Some row) rows = look_of row rows

-- the rows that it keeps are as many as memory can hold
abbrev pub IsSmall : Progress → Type 0
IsSmall work = length (rows_named work.statement work.rows) < 2 ^ 64

-- where no leaf is left
abbrev pub IsSmallOut : Option PageNo → Progress → Type 0
IsSmallOut None work = IsSmall work
IsSmallOut (Some page) work = Unit {0}

-- with what was found, where that is all
abbrev pub TakesSmall : Progress → Found → Option PageNo → Type 0
TakesSmall work (found.Rows rows) next = IsSmallOut next (record work { rows = work.rows ++ rows })
TakesSmall work found.TooLarge next = Unit {0}
