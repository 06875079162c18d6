-- What is known of a session: how far it is, what it would have to undo, which entries it placed or replaced, and how far its
-- statement is (undo logs after the MySQL 8.0 manual on InnoDB; a statement that stops between any two steps is this project's
-- own). Sessions have the numbers 1 to 16, and the setup is session 0; statements are numbered from 1.
use Rattle.std.specs.Prelude.{ℕ, ℤ, Bool, true, false, not, cond, List, [], ◌∷◌, filter, filter_map, slice_index_or, Option, Some, None}
use Rattle.isp_mbr.specs.Corners.{Corners}
use Rattle.isp_mbr.specs.Boxes.{same}
use Rattle.isp_plain.specs.declared.statement.Statement.{Statement}
use Rattle.isp_plain.specs.declared.statement.Statement.TheVariants.{Insert, Update, Delete}
use Rattle.isp_plain.specs.declared.value.Row.{Row}
use Rattle.isp_plain.specs.declared.value.Schema.{Schema}
use Rattle.isp_plain.specs.Conditions.{holds}
use Rattle.isp_plain.specs.Does.{outgrows, with_sets}
use Rattle.isp_plain.specs.Values.{key_of}
use Rattle.isp_events.specs.Stored.{Version, box_in}

-- ---- what it did

-- what stood at a key: nothing, a row, or a row with a delete mark
pub data Image : Type 0 where
  was_absent : Image
  was_there : Version → Image
  was_marked : Version → Image

pub record UndoEntry : Type 0 where
  pub table : ℕ
  pub key : ℤ
  pub image : Image

-- an entry of a tree: the table and the column, the row's key, the entry's number and its box
pub record EntryAt : Type 0 where
  pub table : ℕ
  pub column : ℕ
  pub key : ℤ
  pub number : ℕ
  pub box : Corners

-- how a transaction came to note an entry: it placed it, or wrote a row that has it no more
pub data How : Type 0 where
  by_placing : How
  by_replacing : How

pub record Note : Type 0 where
  pub how : How
  pub entry : EntryAt
  pub statement : ℕ

-- ---- how far its statement is

-- a change that it makes: at this key, of the row that is there, if there is one, to the new one; DELETE has no new one
pub record Change : Type 0 where
  pub key : ℤ
  pub old : Option Row
  pub new : Option Row

-- The entries of a new row: the columns that lack theirs; of those that have it the column and the entry's number; the path
-- of the descent at hand, and whether its last page was a leaf as it joined.
pub record Entering : Type 0 where
  pub columns : List ℕ
  pub placed : List (ℕ × ℕ)
  pub path : List ℕ
  pub at_leaf : Bool

-- what is done of the change at hand: nothing, where it is a row of INSERT whose key isn't locked
pub data Progress : Type 0 where
  unlocked : Progress
  entering : Entering → Progress

-- why a statement fails: a row has the key already; a row would get too large; the file is full
pub data Failure : Type 0 where
  duplicate : ℤ → Failure
  too_large : Failure
  file_full : Failure

-- The phase of a statement behind its table lock: keys left to lock; visiting pages of a tree; going over leaves, with the
-- one gone over last; writing, with the changes done, those left and what is done of the first of these; or the answer is
-- next, with the changes done.
pub data Phase : Type 0 where
  locking : List ℤ → Phase
  visiting : Phase
  scanning : Option ℕ → Phase
  writing : List Change → List Change → Progress → Phase
  answering : List Change → Phase

-- a statement behind its table lock: its table's number, how long the undo list was as it began, the keys that it has read with
-- the row that stood there, and its failure
pub record Work : Type 0 where
  pub statement : Statement
  pub table : ℕ
  pub begun : ℕ
  pub read : List (ℤ × Option Row)
  pub failure : Option Failure
  pub phase : Phase

-- ---- the session

-- the number of its next statement; whether it is inside a transaction, over, the victim of a deadlock; its undo list, oldest
-- first; the entries that it noted, in order of time; the keys that it wrote, with their tables; the pages of its undo
-- chain; and its statement's work
pub record SessionState : Type 0 where
  pub number : ℕ
  pub inside : Bool
  pub over : Bool
  pub victim : Bool
  pub undo : List UndoEntry
  pub notes : List Note
  pub written : List (ℕ × ℤ)
  pub undo_pages : List ℕ
  pub work : Option Work

-- a session at its first statement, or one that the script doesn't have
abbrev pub fresh : Bool → SessionState
fresh over = record {
  number = 1;
  inside = false;
  over = over;
  victim = false;
  undo = [];
  notes = [];
  written = [];
  undo_pages = [];
  work = None;
}

-- the session of that number, by its place
abbrev pub session_at : List SessionState → ℕ → SessionState
session_at sessions s = slice_index_or sessions s (fresh true)

-- ---- the changes that a statement makes

-- of a row that it has read; SELECT makes none
abbrev pub change_of_row : Statement → ℤ → Row → Option Change
change_of_row (Update name sets w) key row =
    cond (holds w row) (Some (record { key = key; old = Some row; new = Some (with_sets sets row) })) None
change_of_row (Delete name w) key row = cond (holds w row) (Some (record { key = key; old = Some row; new = None })) None
change_of_row _ key row = None

abbrev pub change_of : Statement → ℤ → Option Row → Option Change
change_of statement key (Some row) = change_of_row statement key row
change_of statement key None = None

-- of all that it has read, in order
abbrev pub changes_of : Statement → List (ℤ × Option Row) → List Change
changes_of statement read = filter_map (λ r. change_of statement r.0 r.1) read

-- a row that INSERT adds
abbrev pub adding : Row → Change
adding row = record { key = key_of row; old = None; new = Some row }

-- UPDATE would make the row too large
abbrev pub outgrows_by : Schema → Statement → Row → Bool
outgrows_by schema (Update name sets w) row = outgrows schema sets w row
outgrows_by schema _ row = false

-- a row's box in the column is a new one
abbrev pub moves : Option Row → Row → ℕ → Bool
moves None new column = true
moves (Some old) new column = not (same (box_in old column) (box_in new column))

-- the columns, of these, in which the change places an entry
abbrev pub columns_for : List ℕ → Option Row → Option Row → List ℕ
columns_for columns old None = []
columns_for columns old (Some new) = filter (moves old new) columns

-- the change as it is begun, for a table with these indexed columns
abbrev pub begun_entering : List ℕ → Change → Entering
begun_entering columns change = record { columns = columns_for columns change.old change.new; placed = []; path = []; at_leaf = false }

abbrev pub begun_change : Statement → List ℕ → Change → Progress
begun_change (Insert name rows) columns change = unlocked
begun_change _ columns change = entering (begun_entering columns change)

-- the phase with these changes done, and these left
abbrev pub phase_with : Statement → List ℕ → List Change → List Change → Phase
phase_with statement columns done [] = answering done
phase_with statement columns done (change ∷ left) = writing done (change ∷ left) (begun_change statement columns change)
