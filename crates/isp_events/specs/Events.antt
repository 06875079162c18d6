-- Events: one step of a session, a purge, a flush or a list of the locks. What an event determines is a function of the state; what
-- it leaves open is a choice, of which is said which choices may be made. Which lines lead from a state to another is what
-- any number of events tell, one after another, each with a turn, the turns never falling.
use Rattle.std.specs.Prelude.{◌≡◌, ◌≤◌, ◌<◌, ℕ, Bool, true, false, length, map, List, [], ◌∷◌, ◌++◌, Option, Some, None}
use Rattle.isp_mbr.specs.declared.predicate.Predicate.{Predicate}
use Rattle.isp_reclock.specs.declared.entries.Blocker.{Blocker}
use Rattle.isp_reclock.specs.declared.entries.Lock.{Lock}
use Rattle.isp_reclock.specs.Blockers.{AreBlockers}
use Rattle.isp_reclock.specs.Tables.{key_lock, table_lock}
use Rattle.isp_plain.specs.declared.refusal.Refusal.TheVariants.{FileFull}
use Rattle.isp_plain.specs.declared.statement.Reply.{Reply}
use Rattle.isp_plain.specs.declared.statement.Reply.TheVariants as reply
use Rattle.isp_plain.specs.Texts.{reply_text}
use Rattle.isp_forest.specs.Place.{Division}
use Rattle.isp_events.specs.Stored.{table_at, tree_of}
use Rattle.isp_events.specs.Sessions.{session_at}
use Rattle.isp_events.specs.State.{State, Queued, has_room, is_empty}
use Rattle.isp_events.specs.Ways.{Machine}
use Rattle.isp_events.specs.Lines.{Line, Told, Whose, of_session, of_purge, of_flush, of_locks, answer, lock_list, waits_for_table, waits_for_key, waits_to_insert, traced, locked_table, locked_key, visited_page, stepped_to, found_stale, placed_entry, wrote_row, scanned_leaf, found_full, undid, flushed, locks_listed}
use Rattle.isp_events.specs.Next.{Descent, EventKind, answers, undoes, creates, asks_table, asks_key, visits, scans, steps, goes_stale, finds_full, places, writes, next}
use Rattle.isp_events.specs.Deadlocks.{Deadlock, MayWait, after_refusal, deadlock_lines}
use Rattle.isp_events.specs.Asking.{after_key_lock, after_table_lock}
use Rattle.isp_events.specs.Reading.{after_scan, after_visit, search_before, visit_told, visited}
use Rattle.isp_events.specs.Placing.{MayPlaceEntry, after_full, after_place, after_stale, after_step, in_the_way, last_page, may_step, place_told, sessions_on, tree_for}
use Rattle.isp_events.specs.Writing.{MayWriteRow, Put, after_row, written_as}
use Rattle.isp_events.specs.Ending.{MayCreate, after_answer, after_create, after_end, after_undo, is_over_after}
use Rattle.isp_events.specs.Purging.{after_purge, purge_told}

-- What an event leaves open: nothing; who stands in the way of a lock, with the deadlocks that come of it; the deadlocks that come of
-- an entry's wait; the page that joins a path; the raised page and the divisions of a placing; the pages of a row; how many pages
-- of an undo chain stay behind the first; the pages of a new table's rows and trees; how many pages a flush wrote.
pub data Choice : Type 0 where
  with_nothing : Choice
  with_blockers : List Blocker → List Deadlock → Choice
  with_deadlocks : List Deadlock → Choice
  with_child : ℕ → Choice
  with_divisions : ℕ → List Division → Choice
  with_put : Put → Choice
  with_undo_pages : ℕ → Choice
  with_roots : ℕ → List ℕ → Choice
  with_flushed : ℕ → Choice

-- who acts
pub data Actor : Type 0 where
  acts : ℕ → Actor
  purges : Actor
  flushes : Actor
  lists_locks : Actor

-- ---- an event of a session

abbrev pub blockers_of : List Blocker → List ℕ
blockers_of by = map (λ b. b.trx) by

-- a lock that was refused: these stand in its way, and the session waits for them
abbrev pub MayBeRefused : State → ℕ → Lock → List Blocker → List Deadlock → Type 0
MayBeRefused state s lock by ds = (0 < length by) × AreBlockers state.locks lock by × MayWait state s (blockers_of by) ds

-- an entry that waits
abbrev pub MayStop : State → ℕ → Descent → List Deadlock → Type 0
MayStop state s d ds = (is_empty (in_the_way state s d) ≡ false) × MayWait state s (sessions_on (in_the_way state s d)) ds

-- the event of that kind may make this choice
abbrev pub MayChoose : State → ℕ → EventKind → Choice → Type 0
MayChoose state s (answers reply ends) with_nothing = Unit {0}
MayChoose state s (undoes entry) (with_undo_pages more) = Unit {0}
MayChoose state s (creates name schema) with_nothing = has_room state ≡ false
MayChoose state s (creates name schema) (with_roots leaf roots) = MayCreate state schema leaf roots
MayChoose state s (asks_table statement number mode) with_nothing = AreBlockers state.locks (table_lock s number mode) []
MayChoose state s (asks_table statement number mode) (with_blockers by ds) = MayBeRefused state s (table_lock s number mode) by ds
MayChoose state s (asks_key number key mode) with_nothing = AreBlockers state.locks (key_lock s number key mode) []
MayChoose state s (asks_key number key mode) (with_blockers by ds) = MayBeRefused state s (key_lock s number key mode) by ds
MayChoose state s (visits number column predicate) with_nothing = Unit {0}
MayChoose state s (scans number leaf) with_nothing = Unit {0}
MayChoose state s (steps d) (with_child q) = may_step (tree_for state d) d.path q ≡ true
MayChoose state s (goes_stale d) with_nothing = Unit {0}
MayChoose state s finds_full with_nothing = Unit {0}
MayChoose state s (places d) (with_deadlocks ds) = MayStop state s d ds
MayChoose state s (places d) (with_divisions q ds) = MayPlaceEntry state s d q ds
MayChoose state s (writes number change placed) (with_put p) = MayWriteRow state number change placed p
MayChoose state s _ _ = ⊥

-- the answer, and with it the end of the transaction, if it ends
abbrev pub after_reply : Machine → State → ℕ → Reply → Bool → State
after_reply m state s reply true = after_end state s (is_over_after m s (session_at state.sessions s).number reply)
after_reply m state s reply false = after_answer state s (is_over_after m s (session_at state.sessions s).number reply)

-- a file without room for a table
abbrev pub full_reply : Reply
full_reply = reply.Err FileFull

abbrev pub after_kind : Machine → State → ℕ → EventKind → Choice → State
after_kind m state s (answers reply ends) choice = after_reply m state s reply ends
after_kind m state s (undoes entry) (with_undo_pages more) = after_undo state s entry more
after_kind m state s (creates name schema) (with_roots leaf roots) = after_create state s (is_over_after m s (session_at state.sessions s).number reply.Ok) name schema leaf roots
after_kind m state s (creates name schema) choice = after_reply m state s full_reply true
after_kind m state s (asks_table statement number mode) (with_blockers by ds) = after_refusal state s (blockers_of by) ds
after_kind m state s (asks_table statement number mode) choice = after_table_lock state m.ways s statement number mode
after_kind m state s (asks_key number key mode) (with_blockers by ds) = after_refusal state s (blockers_of by) ds
after_kind m state s (asks_key number key mode) choice = after_key_lock state s number key mode
after_kind m state s (visits number column predicate) choice = after_visit state s number column predicate
after_kind m state s (scans number leaf) choice = after_scan state s number leaf
after_kind m state s (steps d) (with_child q) = after_step state s d q
after_kind m state s (goes_stale d) choice = after_stale state s
after_kind m state s finds_full choice = after_full state s
after_kind m state s (places d) (with_deadlocks ds) = after_refusal state s (sessions_on (in_the_way state s d)) ds
after_kind m state s (places d) (with_divisions q ds) = after_place state s d q ds
after_kind m state s (writes number change placed) (with_put p) = after_row state s number change placed p
after_kind m state s kind choice = state

-- what its line tells
abbrev pub visit_line : State → ℕ → ℕ → ℕ → Predicate → Told
visit_line state s number column predicate =
    let tree = tree_of (table_at state.tables number) column in
    let x = search_before state.searches tree s (session_at state.sessions s).number predicate in
    traced (visited_page (visit_told number column x (visited tree x)))

abbrev pub told_of : State → ℕ → EventKind → Choice → Told
told_of state s (answers reply ends) choice = answer (reply_text reply)
told_of state s (undoes entry) choice = traced (undid entry.table entry.key)
told_of state s (creates name schema) (with_roots leaf roots) = answer (reply_text reply.Ok)
told_of state s (creates name schema) choice = answer (reply_text full_reply)
told_of state s (asks_table statement number mode) (with_blockers by ds) = waits_for_table number mode by
told_of state s (asks_table statement number mode) choice = traced (locked_table number mode)
told_of state s (asks_key number key mode) (with_blockers by ds) = waits_for_key number key mode by
told_of state s (asks_key number key mode) choice = traced (locked_key number key mode)
told_of state s (visits number column predicate) choice = visit_line state s number column predicate
told_of state s (scans number leaf) choice = traced (scanned_leaf number leaf.page)
told_of state s (steps d) (with_child q) = traced (stepped_to d.table d.column q)
told_of state s (steps d) choice = traced (stepped_to d.table d.column 0)
told_of state s (goes_stale d) choice = traced (found_stale d.table d.column)
told_of state s finds_full choice = traced found_full
told_of state s (places d) (with_divisions q ds) = traced (placed_entry (place_told state s d q ds))
told_of state s (places d) choice = waits_to_insert d.table d.column d.box (last_page d.path) (in_the_way state s d)
told_of state s (writes number change placed) choice = traced (wrote_row number change.key (written_as (table_at state.tables number) change change.new))

-- the deadlocks of a refusal are told behind its wait
abbrev pub deadlocks_in : Choice → List Deadlock
deadlocks_in (with_blockers by ds) = ds
deadlocks_in (with_deadlocks ds) = ds
deadlocks_in choice = []

-- ---- an event of anyone

-- the kind that comes next may make the choice
abbrev pub MayGoOn : State → ℕ → Option EventKind → Choice → Type 0
MayGoOn state s None choice = ⊥
MayGoOn state s (Some kind) choice = MayChoose state s kind choice

abbrev pub MayHappen : Machine → State → Actor → Choice → Type 0
MayHappen m state (acts s) choice = MayGoOn state s (next m state s) choice
MayHappen m state purges with_nothing = is_empty state.queue ≡ false
MayHappen m state flushes (with_flushed n) = Unit {0}
MayHappen m state lists_locks with_nothing = Unit {0}
MayHappen m state actor choice = ⊥

abbrev pub after_next : Machine → State → ℕ → Option EventKind → Choice → State
after_next m state s None choice = state
after_next m state s (Some kind) choice = after_kind m state s kind choice

-- the state after it
abbrev pub after : Machine → State → Actor → Choice → State
after m state (acts s) choice = after_next m state s (next m state s) choice
after m state purges choice = after_purge state
after m state flushes choice = state
after m state lists_locks choice = state

abbrev pub whose_of : State → ℕ → Whose
whose_of state s = of_session s (session_at state.sessions s).number

abbrev pub lines_next : State → ℕ → ℕ → Option EventKind → Choice → List Line
lines_next state turn s None choice = []
lines_next state turn s (Some kind) choice =
    record { turn = turn; whose = whose_of state s; told = told_of state s kind choice } ∷ deadlock_lines turn (whose_of state s) (deadlocks_in choice)

abbrev pub lines_purging : State → ℕ → List Queued → List Line
lines_purging state turn [] = []
lines_purging state turn (item ∷ queue) = record { turn = turn; whose = of_purge; told = traced (purge_told state.locks state.tables item) } ∷ []

abbrev pub lines_flushing : ℕ → Choice → List Line
lines_flushing turn (with_flushed n) = record { turn = turn; whose = of_flush; told = traced (flushed n) } ∷ []
lines_flushing turn choice = []

-- the lines that it tells: one, and those of the deadlocks that it made
abbrev pub lines_of : Machine → State → ℕ → Actor → Choice → List Line
lines_of m state turn (acts s) choice = lines_next state turn s (next m state s) choice
lines_of m state turn purges choice = lines_purging state turn state.queue
lines_of m state turn flushes choice = lines_flushing turn choice
lines_of m state turn lists_locks choice = record { turn = turn; whose = of_locks; told = lock_list (locks_listed state.locks state.searches) } ∷ []

-- ---- any number of events

pub record Event : Type 0 where
  pub turn : ℕ
  pub actor : Actor
  pub choice : Choice

-- these happen one after another, with turns from `first` to `last` that never fall
abbrev pub MayFollow : Machine → ℕ → ℕ → State → List Event → Type 0
MayFollow m first last state [] = first ≤ last
MayFollow m first last state (e ∷ events) =
    (first ≤ e.turn) × MayHappen m state e.actor e.choice × MayFollow m e.turn last (after m state e.actor e.choice) events

abbrev pub after_all : Machine → State → List Event → State
after_all m state [] = state
after_all m state (e ∷ events) = after_all m (after m state e.actor e.choice) events

abbrev pub lines_of_all : Machine → State → List Event → List Line
lines_of_all m state [] = []
lines_of_all m state (e ∷ events) = lines_of m state e.turn e.actor e.choice ++ lines_of_all m (after m state e.actor e.choice) events

-- the lines lead from one state to the other, with turns from `first` to `last`
pub record Events (m : Machine) (first last : ℕ) (before : State) (lines : List Line) (left : State) : Type 0 where
  pub events : List Event
  pub happen : MayFollow m first last before events
  pub told : lines_of_all m before events ≡ lines
  pub ends : after_all m before events ≡ left
