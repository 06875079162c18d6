-- What the others may count on at an event: whose record, locks and searches it leaves, at which keys it changes rows, and when the
-- committed tables change (what a transaction holds stays until its end, as the MySQL 8.0 manual has it for InnoDB).
use Rattle.std.specs.Prelude.{◌≡◌, ◌⊎◌, ℕ, ℤ, ◌==◌, true, false, List, [], ◌∷◌, ◌++◌, filter, map, None, Some}
use Rattle.isp_reclock.specs.declared.entries.Lock.{Lock}
use Rattle.isp_reclock.specs.declared.modes.Mode.TheVariants.{S, X}
use Rattle.isp_reclock.specs.Tables.{held_by}
use Rattle.isp_waits.specs.Graphs.{WaitsFor}
use Rattle.isp_plain.specs.declared.value.Schema.{Schema}
use Rattle.isp_plain.specs.Tables.{Table}
use Rattle.isp_events.specs.Stored.{kept_at, present, table_at}
use Rattle.isp_events.specs.Sessions.{SessionState, session_at}
use Rattle.isp_events.specs.State.{State, TreeSearch}
use Rattle.isp_events.specs.Views.{committed, has_written, view}
use Rattle.isp_events.specs.Ways.{Machine}
use Rattle.isp_events.specs.Lines.{is_search_of}
use Rattle.isp_events.specs.Next.{EventKind, answers, creates, next}
use Rattle.isp_events.specs.Deadlocks.{as_victim}
use Rattle.isp_events.specs.Events.{Choice, MayHappen, acts, after, purges, with_roots}
use Rattle.isp_order.specs.Locks.{Holds}
use Rattle.isp_order.specs.InOrder.{InOrder, IsProper}

-- ---- sessions

-- it is as it was, or is known as a victim now
abbrev pub IsAsBefore : SessionState → SessionState → Type 0
IsAsBefore before now = (now ≡ before) ⊎ (now ≡ as_victim before)

abbrev pub searches_by : List TreeSearch → ℕ → List TreeSearch
searches_by searches s = filter (is_search_of s) searches

-- a search without the pages that it is on
abbrev pub without_pages : TreeSearch → TreeSearch
without_pages x = record x { search = record x.search { on = [] } }

-- what an event leaves of a session that doesn't act: its record, but that it may be a victim; its locks; its searches, but for the
-- pages that they are on; and it waits for nobody for whom it didn't wait
pub record IsLeft (before now : State) (s : ℕ) : Type 0 where
  pub session : IsAsBefore (session_at before.sessions s) (session_at now.sessions s)
  pub locks : held_by now.locks s ≡ held_by before.locks s
  pub searches : map without_pages (searches_by now.searches s) ≡ map without_pages (searches_by before.searches s)
  pub waits : (by : ℕ) → WaitsFor now.waits s by → WaitsFor before.waits s by

-- so does an event of a session leave all others
abbrev pub OthersAreLeft : Type 0
OthersAreLeft =
    (m : Machine) (state : State) (s : ℕ) (choice : Choice) → MayHappen m state (acts s) choice
    → (k : ℕ) → (k == s) ≡ false → IsLeft state (after m state (acts s) choice) k

-- ---- rows

-- the same is kept at the key
abbrev pub IsKeptSame : State → State → ℕ → ℤ → Type 0
IsKeptSame before now table key = kept_at (table_at now.tables table) key ≡ kept_at (table_at before.tables table) key

-- rows change only at keys that the session's undo list names, before the event or after it
abbrev pub RowsChangeWhereWritten : Type 0
RowsChangeWhereWritten =
    (m : Machine) (state : State) (s : ℕ) (choice : Choice) → IsProper m → InOrder m state → MayHappen m state (acts s) choice
    → (table : ℕ) (key : ℤ) → has_written (session_at state.sessions s) table key ≡ false
    → has_written (session_at (after m state (acts s) choice).sessions s) table key ≡ false
    → IsKeptSame state (after m state (acts s) choice) table key

-- a purge changes no session, lock, search or wait, no row that isn't marked, and none at a key that an undo list names
pub record IsPurged (before now : State) : Type 0 where
  pub sessions : now.sessions ≡ before.sessions
  pub locks : now.locks ≡ before.locks
  pub searches : now.searches ≡ before.searches
  pub waits : now.waits ≡ before.waits
  pub unmarked : (table : ℕ) (key : ℤ) → present (table_at now.tables table) key ≡ present (table_at before.tables table) key
  pub named : (s table : ℕ) (key : ℤ) → has_written (session_at before.sessions s) table key ≡ true → IsKeptSame before now table key

abbrev pub PurgesLeaveNamed : Type 0
PurgesLeaveNamed =
    (m : Machine) (state : State) (choice : Choice) → IsProper m → InOrder m state → MayHappen m state purges choice → IsPurged state (after m state purges choice)

-- ---- what is locked

-- the session holds S or X on the key or on its table
abbrev pub Reads : List Lock → ℕ → ℕ → ℤ → Type 0
Reads locks s table key = (Holds locks s table (Some key) S ⊎ Holds locks s table (Some key) X) ⊎ (Holds locks s table None S ⊎ Holds locks s table None X)

-- so no other's undo list names it
abbrev pub ReadIsUnnamed : Type 0
ReadIsUnnamed =
    (m : Machine) (state : State) → IsProper m → InOrder m state → (s k table : ℕ) (key : ℤ) → Reads state.locks s table key → (k == s) ≡ false
    → has_written (session_at state.sessions k) table key ≡ false

-- ---- the committed tables

-- a table as CREATE makes it
abbrev pub empty_table : List ℕ → Schema → Table
empty_table name schema = record { name = name; schema = schema; rows = [] }

-- The committed tables after an event of the session: where its transaction ends, what it saw; with CREATE, one more; and else
-- what they were.
abbrev pub committed_after : State → ℕ → EventKind → Choice → List Table
committed_after state s (answers reply true) choice = view state s
committed_after state s (creates name schema) (with_roots leaf roots) = committed state ++ empty_table name schema ∷ []
committed_after state s kind choice = committed state

abbrev pub CommittedChangesAtEnds : Type 0
CommittedChangesAtEnds =
    (m : Machine) (state : State) (s : ℕ) (kind : EventKind) (choice : Choice) → IsProper m → InOrder m state → next m state s ≡ Some kind
    → MayHappen m state (acts s) choice → committed (after m state (acts s) choice) ≡ committed_after state s kind choice

-- no purge changes them
abbrev pub PurgesLeaveCommitted : Type 0
PurgesLeaveCommitted =
    (m : Machine) (state : State) (choice : Choice) → IsProper m → InOrder m state → MayHappen m state purges choice
    → committed (after m state purges choice) ≡ committed state
