-- Wrong machines. Each is the machine with the function of one kind of event exchanged; where nothing else is said, the exchanged function
-- is the right one. A step of a wrong machine is an event of the right one, or what the exchanged function does in its place.
use Rattle.std.specs.Prelude.{◌≡◌, ℕ, ℤ, ◌==◌, ◌&&◌, Bool, true, not, List, [], ◌∷◌, ◌++◌, filter, map, slice_set, Option, Some, None}
use Rattle.isp_reclock.specs.declared.entries.Lock.{Lock}
use Rattle.isp_reclock.specs.declared.modes.Mode.TheVariants.{IS, S}
use Rattle.isp_reclock.specs.Modes.{is_mode}
use Rattle.isp_reclock.specs.Tables.{without as locks_without}
use Rattle.isp_serial.specs.Answers.{Answer}
use Rattle.isp_serial.specs.Serial.{none_pending}
use Rattle.isp_forest.specs.declared.entry.To.{To}
use Rattle.isp_forest.specs.declared.entry.To.TheVariants.{Child, Row}
use Rattle.isp_forest.specs.Tree.{Node, Tree}
use Rattle.isp_forest.specs.Steps.{each, is_among}
use Rattle.isp_events.specs.Stored.{KeptRow, StoredTable, change_table, change_tree, kept_at, table_at}
use Rattle.isp_events.specs.Sessions.{Entering, Image, Note, session_at}
use Rattle.isp_events.specs.State.{State, dead_entry}
use Rattle.isp_events.specs.Views.{committed}
use Rattle.isp_events.specs.Ways.{Machine}
use Rattle.isp_events.specs.Lines.{Line, answers_in}
use Rattle.isp_events.specs.Next.{EventKind, undoes, asks_table, visits, writes, next}
use Rattle.isp_events.specs.Asking.{after_table_lock, change_work}
use Rattle.isp_events.specs.Reading.{after_visit}
use Rattle.isp_events.specs.Placing.{change_entering}
use Rattle.isp_events.specs.Writing.{after_row, numbers_kept, table_with_row}
use Rattle.isp_events.specs.Ending.{has_number, noted_once, restored, searches_without}
use Rattle.isp_events.specs.Events.{acts, Choice, with_put, Event, MayHappen, after, after_kind, lines_of}
use Rattle.isp_event_laws.specs.SerialAfter.{serial_from}

-- the function of an event of a session
abbrev pub Function : Type 0
Function = Machine → State → ℕ → EventKind → Choice → State

-- ---- searches

-- an entry is placed without a look at who stands in its way
abbrev pub untested : Function
untested m state s kind choice = after_kind m state s kind choice

-- searches go with their statement's answer
abbrev pub searches_go_early : Function
searches_go_early m state s kind choice = record (after_kind m state s kind choice) { searches = searches_without state.searches s }

-- no search percolates
abbrev pub unpercolated : Function
unpercolated m state s kind choice = record (after_kind m state s kind choice) { searches = state.searches }

-- ---- locks

-- a key that was found isn't locked, nor is one without a row
abbrev pub unlocked_key : Function
unlocked_key m state s kind choice = record (after_kind m state s kind choice) { locks = state.locks }

-- a scan locks the intention alone
abbrev pub intention_alone : Function
intention_alone m state s (asks_table statement number mode) choice = after_table_lock state m.ways s statement number IS
intention_alone m state s kind choice = after_kind m state s kind choice

abbrev pub is_shared_of : ℕ → Lock → Bool
is_shared_of s lock = (lock.trx == s) && is_mode lock.held.mode S

-- shared locks go with the statement's answer
abbrev pub shared_go_early : Function
shared_go_early m state s kind choice = record (after_kind m state s kind choice) { locks = filter (λ lock. not (is_shared_of s lock)) state.locks }

-- all locks go: with a failed statement's answer, or before the transaction is undone
abbrev pub locks_go_early : Function
locks_go_early m state s kind choice = record (after_kind m state s kind choice) { locks = locks_without state.locks s }

-- ---- entries

-- the leaf entries that pass the test
abbrev pub passes_row : (ℤ → ℕ → Bool) → To → Bool
passes_row test (Child p) = true
passes_row test (Row key number) = test key number

abbrev pub only : (ℤ → ℕ → Bool) → Tree → Tree
only test tree = record tree { pages = each (λ q (page : Node). record page { entries = filter (λ e. passes_row test e.to) page.entries }) tree.pages }

abbrev pub with_tree : ℕ → ℕ → (Tree → Tree) → List StoredTable → List StoredTable
with_tree number column f tables = change_table number (λ (table : StoredTable). record table { trees = change_tree column f table.trees }) tables

-- a visit that doesn't see the entries that fail the test
abbrev pub after_blind_visit : State → (ℕ → ℕ → ℤ → ℕ → Bool) → ℕ → EventKind → State
after_blind_visit state test s (visits number column predicate) =
    record (after_visit (record state { tables = with_tree number column (only (test number column)) state.tables }) s number column predicate) { tables = state.tables }
after_blind_visit state test s kind = state

abbrev pub has_noted : List Note → ℕ → Bool
has_noted notes number = is_among (map (λ note. note.entry.number) notes) number

-- a search doesn't find the entries that its own transaction placed
abbrev pub own_unseen : Function
own_unseen m state s kind choice = after_blind_visit state (λ number column key n. not (has_noted (session_at state.sessions s).notes n)) s kind

-- a search finds live entries alone
abbrev pub dead_unseen : Function
dead_unseen m state s kind choice = after_blind_visit state (λ number column key n. has_number (kept_at (table_at state.tables number) key) n) s kind

-- the entries of these numbers leave the trees
abbrev pub table_without_numbers : List ℕ → StoredTable → StoredTable
table_without_numbers numbers table = record table { trees = map (λ t. (t.0, only (λ key n. not (is_among numbers n)) t.1)) table.trees }

-- DELETE takes the entries out with the row event
abbrev pub entries_go_at_delete : Function
entries_go_at_delete m state s (writes number change placed) (with_put p) =
    let numbers = numbers_kept (kept_at (table_at state.tables number) change.key) in
    record (after_row state s number change placed p) { tables = change_table number (table_without_numbers numbers) (after_row state s number change placed p).tables }
entries_go_at_delete m state s kind choice = after_kind m state s kind choice

-- ---- numbers

-- the row keeps the numbers that it had, though entries were placed for it
abbrev pub numbers_stay : Function
numbers_stay m state s (writes number change placed) (with_put p) = after_row state s number change [] p
numbers_stay m state s kind choice = after_kind m state s kind choice

abbrev pub restored_with_numbers : Image → KeptRow → KeptRow
restored_with_numbers image kept = record (restored image kept) { numbers = kept.numbers }

-- undo leaves the row its new numbers
abbrev pub numbers_not_undone : Function
numbers_not_undone m state s (undoes entry) choice =
    record (after_kind m state s (undoes entry) choice) { tables = change_table entry.table (table_with_row entry.key (restored_with_numbers entry.image)) state.tables }
numbers_not_undone m state s kind choice = after_kind m state s kind choice

-- ---- the queue

-- at the end all entries noted join the queue, live ones too
abbrev pub live_queued : Function
live_queued m state s kind choice =
    record (after_kind m state s kind choice) { queue = state.queue ++ map dead_entry (noted_once [] (session_at state.sessions s).notes) }

abbrev pub without_columns : Entering → Entering
without_columns e = record e { columns = [] }

-- INSERT over a marked row takes the entries that the row had
abbrev pub entries_taken_over : Function
entries_taken_over m state s kind choice =
    let right = after_kind m state s kind choice in
    record right { sessions = slice_set right.sessions s (change_work (change_entering without_columns) (session_at right.sessions s)) }

-- ---- steps

-- an event of the right machine, or in this turn a step of this session, with this choice, by the exchanged function
pub data Step : Type 0 where
  right : Event → Step
  wrong : ℕ → ℕ → Choice → Function → Step

abbrev pub after_exchanged : Machine → State → ℕ → Option EventKind → Choice → Function → State
after_exchanged m state s None choice f = state
after_exchanged m state s (Some kind) choice f = f m state s kind choice

abbrev pub after_step : Machine → State → Step → State
after_step m state (right e) = after m state e.actor e.choice
after_step m state (wrong turn s choice f) = after_exchanged m state s (next m state s) choice f

abbrev pub lines_of_step : Machine → State → Step → List Line
lines_of_step m state (right e) = lines_of m state e.turn e.actor e.choice
lines_of_step m state (wrong turn s choice f) = lines_of m state turn (acts s) choice

abbrev pub lines_of_steps : Machine → State → List Step → List Line
lines_of_steps m state [] = []
lines_of_steps m state (step ∷ steps) = lines_of_step m state step ++ lines_of_steps m (after_step m state step) steps

-- each right step is an event
abbrev pub AreRight : Machine → State → List Step → Type 0
AreRight m state [] = Unit {0}
AreRight m state (right e ∷ steps) = MayHappen m state e.actor e.choice × AreRight m (after_step m state (right e)) steps
AreRight m state (wrong turn s choice f ∷ steps) = AreRight m (after_step m state (wrong turn s choice f)) steps

abbrev pub answers_of_steps : Machine → State → List Step → List Answer
answers_of_steps m state steps = answers_in (lines_of_steps m state steps)

-- a run of a wrong machine, with the texts that it answers
pub record WrongRun : Type 0 where
  pub machine : Machine
  pub start : State
  pub steps : List Step
  pub texts : List (List ℕ)

-- its right steps are events, its answers have these texts, and they are not serial
pub record Disagrees (r : WrongRun) : Type 0 where
  pub rights : AreRight r.machine r.start r.steps
  pub answers : map (λ (a : Answer). a.text) (answers_of_steps r.machine r.start r.steps) ≡ r.texts
  pub not_serial : serial_from r.machine.language r.machine.script (committed r.start) none_pending (answers_of_steps r.machine r.start r.steps) ≡ None
