-- Why an event of a session comes next: where the session stands, kind by kind. It is what `next` computes, read backwards.
use Rattle.std.specs.Prelude.{◌≡◌, ◌⊎◌, ℕ, ℤ, ◌==◌, ◌||◌, Bool, true, false, not, List, [], ◌∷◌, drop, Option, Some, None}
use Rattle.std.specs.List.{last_or}
use Rattle.isp_mbr.specs.declared.predicate.Predicate.{Predicate}
use Rattle.isp_reclock.specs.declared.modes.Mode.{Mode}
use Rattle.isp_reclock.specs.declared.modes.Mode.TheVariants.{X}
use Rattle.isp_waits.specs.Graphs.{waits_of}
use Rattle.isp_plain.specs.declared.statement.Reply.{Reply}
use Rattle.isp_plain.specs.declared.statement.Statement.{Statement}
use Rattle.isp_plain.specs.declared.statement.Statement.TheVariants.{Create, Insert, Select, Update, Delete, Begin}
use Rattle.isp_plain.specs.declared.value.Schema.{Schema}
use Rattle.isp_serial.specs.Script.{text_at}
use Rattle.isp_serial.specs.Serial.{place_at}
use Rattle.isp_events.specs.Stored.{Leaf, leaf_after, table_at}
use Rattle.isp_events.specs.Sessions.{Change, Entering, Failure, locking, visiting, scanning, writing, unlocked, entering, SessionState, session_at, UndoEntry, Work}
use Rattle.isp_events.specs.State.{State, has_room, has_room_in, is_empty}
use Rattle.isp_events.specs.Views.{committed}
use Rattle.isp_events.specs.Ways.{Machine, by_box}
use Rattle.isp_events.specs.Next.{Descent, EventKind, answers, undoes, creates, asks_table, asks_key, visits, scans, steps, goes_stale, finds_full, places, writes, descent_of, key_mode, next, number_of, path_stands, table_mode}
use Rattle.isp_events.specs.Placing.{tree_for}
use Rattle.isp_events.specs.Ending.{is_end_reply}
use Rattle.isp_order.specs.Searches.{is_visiting}
use Rattle.isp_order.specs.Work.{table_name}

-- ---- at work

-- it is at work, has not failed, and is no victim
pub record GoesOn (session : SessionState) (work : Work) : Type 0 where
  pub undisturbed : session.victim ≡ false
  pub at_work : session.work ≡ Some work
  pub unfailed : work.failure ≡ None

-- it has a change at hand whose key is locked
pub record IsEntering (session : SessionState) : Type 0 where
  pub work : Work
  pub goes_on : GoesOn session work
  pub done : List Change
  pub change : Change
  pub left : List Change
  pub e : Entering
  pub phase : work.phase ≡ writing done (change ∷ left) (entering e)

-- with the entry for a column next
pub record IsDescending (session : SessionState) (d : Descent) : Type 0 where
  pub entering : IsEntering session
  pub column : ℕ
  pub columns : List ℕ
  pub next : entering.e.columns ≡ column ∷ columns
  pub descent : d ≡ descent_of entering.work.table entering.change column entering.e.path

abbrev pub is_under_way : Entering → Bool
is_under_way e = is_empty e.path || not e.at_leaf

pub record IsStepping (session : SessionState) (d : Descent) : Type 0 where
  pub descending : IsDescending session d
  pub under_way : is_under_way descending.entering.e ≡ true

pub record IsStale (state : State) (session : SessionState) (d : Descent) : Type 0 where
  pub descending : IsDescending session d
  pub complete : is_under_way descending.entering.e ≡ false
  pub stale : path_stands (tree_for state d) d.path ≡ false

pub record IsPlacing (state : State) (session : SessionState) (d : Descent) : Type 0 where
  pub descending : IsDescending session d
  pub complete : is_under_way descending.entering.e ≡ false
  pub stands : path_stands (tree_for state d) d.path ≡ true
  pub room : has_room_in state (tree_for state d) ≡ true

-- with all its entries placed
pub record IsWritingRow (state : State) (session : SessionState) (number : ℕ) (change : Change) (placed : List (ℕ × ℕ)) : Type 0 where
  pub entering : IsEntering session
  pub all_placed : entering.e.columns ≡ []
  pub number_is : number ≡ entering.work.table
  pub change_is : change ≡ entering.change
  pub placed_is : placed ≡ entering.e.placed
  pub room : has_room state ≡ true

-- a key that it has found, or that of a row of INSERT
pub record IsLockingKey (session : SessionState) (number : ℕ) (key : ℤ) (mode : Mode) : Type 0 where
  pub work : Work
  pub goes_on : GoesOn session work
  pub keys : List ℤ
  pub phase : work.phase ≡ locking (key ∷ keys)
  pub number_is : number ≡ work.table
  pub mode_is : mode ≡ key_mode work.statement

pub record IsLockingRow (session : SessionState) (number : ℕ) (key : ℤ) (mode : Mode) : Type 0 where
  pub work : Work
  pub goes_on : GoesOn session work
  pub done : List Change
  pub change : Change
  pub left : List Change
  pub phase : work.phase ≡ writing done (change ∷ left) unlocked
  pub number_is : number ≡ work.table
  pub key_is : key ≡ change.key
  pub mode_is : mode ≡ X

pub record IsVisiting (m : Machine) (state : State) (session : SessionState) (number column : ℕ) (predicate : Predicate) : Type 0 where
  pub work : Work
  pub goes_on : GoesOn session work
  pub phase : work.phase ≡ visiting
  pub number_is : number ≡ work.table
  pub way : m.ways (table_at state.tables work.table).schema work.statement ≡ by_box column predicate

pub record IsScanning (state : State) (session : SessionState) (number : ℕ) (leaf : Leaf) : Type 0 where
  pub work : Work
  pub goes_on : GoesOn session work
  pub last : Option ℕ
  pub phase : work.phase ≡ scanning last
  pub number_is : number ≡ work.table
  pub leaf_is : leaf_after (table_at state.tables work.table).leaves last ≡ Some leaf

-- ---- at the beginning of a statement

-- its next text means that statement
pub record IsAtFirst (m : Machine) (state : State) (s : ℕ) (session : SessionState) (statement : Statement) : Type 0 where
  pub undisturbed : session.victim ≡ false
  pub no_work : session.work ≡ None
  pub text : List ℕ
  pub text_is : text_at m.script s session.number ≡ Some text
  pub means : m.language.meaning (committed state) (place_at s session.inside) text ≡ statement

-- the statement is on rows of a table
abbrev pub is_on_rows : Statement → Bool
is_on_rows (Insert name rows) = true
is_on_rows (Select name columns w) = true
is_on_rows (Update name sets w) = true
is_on_rows (Delete name w) = true
is_on_rows _ = false

pub record IsLockingTable (m : Machine) (state : State) (s : ℕ) (session : SessionState) (statement : Statement) (number : ℕ) (mode : Mode) : Type 0 where
  pub first : IsAtFirst m state s session statement
  pub on_rows : is_on_rows statement ≡ true
  pub number_is : number ≡ number_of state.tables (table_name statement)
  pub mode_is : mode ≡ table_mode statement (m.ways (table_at state.tables number).schema statement)

pub record IsCreating (m : Machine) (state : State) (s : ℕ) (session : SessionState) (name : List ℕ) (schema : Schema) : Type 0 where
  pub first : IsAtFirst m state s session (Create name schema)
  pub setup : s ≡ 0

-- ---- undoing, and answers

-- the newest undo entry; of a text's statement at work, which then has failed, it is one of its own
pub record IsUndoing (m : Machine) (s : ℕ) (session : SessionState) (entry : UndoEntry) : Type 0 where
  pub newest : last_or None session.undo ≡ Some entry
  pub own : (work : Work) (text : List ℕ) → session.work ≡ Some work → session.victim ≡ false → text_at m.script s session.number ≡ Some text
      → ((failure : Failure) × (work.failure ≡ Some failure)) × (last_or None (drop work.begun session.undo) ≡ Some entry)

-- a statement that has no pages left to visit, or has failed
abbrev pub HasStopped : Work → Type 0
HasStopped work = (is_visiting work.phase ≡ false) ⊎ ((failure : Failure) × (work.failure ≡ Some failure))

-- a transaction goes on behind an answer that isn't END, where it is open, or BEGIN opens it
pub record IsAnswering (m : Machine) (state : State) (s : ℕ) (session : SessionState) (reply : Reply) (ends : Bool) : Type 0 where
  pub not_end : ends ≡ false → is_end_reply reply ≡ false
  pub stays : ends ≡ false → session.inside ≡ true ⊎ IsAtFirst m state s session Begin
  pub stopped : ends ≡ false → (work : Work) → session.work ≡ Some work → HasStopped work

-- ---- each kind

abbrev pub Cause : Machine → State → ℕ → SessionState → EventKind → Type 0
Cause m state s session (answers reply ends) = IsAnswering m state s session reply ends
Cause m state s session (undoes entry) = IsUndoing m s session entry
Cause m state s session (creates name schema) = IsCreating m state s session name schema
Cause m state s session (asks_table statement number mode) = IsLockingTable m state s session statement number mode
Cause m state s session (asks_key number key mode) = IsLockingKey session number key mode ⊎ IsLockingRow session number key mode
Cause m state s session (visits number column predicate) = IsVisiting m state session number column predicate
Cause m state s session (scans number leaf) = IsScanning state session number leaf
Cause m state s session (steps d) = IsStepping session d
Cause m state s session (goes_stale d) = IsStale state session d
Cause m state s session finds_full = IsEntering session
Cause m state s session (places d) = IsPlacing state session d
Cause m state s session (writes number change placed) = IsWritingRow state session number change placed

-- the session isn't over and waits for nobody, nor for the setup
pub record IsActive (state : State) (s : ℕ) : Type 0 where
  pub not_over : (session_at state.sessions s).over ≡ false
  pub awake : waits_of state.waits s ≡ []
  pub behind_setup : (s == 0) ≡ false → (session_at state.sessions 0).over ≡ true

pub record IsCaused (m : Machine) (state : State) (s : ℕ) (kind : EventKind) : Type 0 where
  pub active : IsActive state s
  pub cause : Cause m state s (session_at state.sessions s) kind

abbrev pub NextHasCause : Type 0
NextHasCause = (m : Machine) (state : State) (s : ℕ) (kind : EventKind) → next m state s ≡ Some kind → IsCaused m state s kind
