-- Wrong events, one for each mistake: each leads from a state that has all clauses to one that lacks the clause which speaks of the
-- mistake. The table is that of the five points, and all states are reached by events from its rested state.
use Rattle.std.specs.Prelude.{◌≡◌, ℕ, ℤ, ◌==◌, ◌&&◌, Bool, not, cond, List, [], ◌∷◌, ◌++◌, map}
use Rattle.std.specs.List.{list_any}
use Rattle.isp_reclock.specs.declared.entries.Lock.{Lock}
use Rattle.isp_reclock.specs.declared.modes.Mode.TheVariants.{S, X}
use Rattle.isp_reclock.specs.Tables.{holds, key_lock, without as locks_without}
use Rattle.isp_plain.specs.declared.statement.Statement.{Statement}
use Rattle.isp_plain.specs.declared.statement.Statement.TheVariants.{Select, Update, Delete, Begin, Rollback}
use Rattle.isp_events.specs.Stored.{change_table, kept_at, table_at}
use Rattle.isp_events.specs.Sessions.{adding as adding_row}
use Rattle.isp_events.specs.State.{State, TreeSearch, Queued, dead_entry, dead_row}
use Rattle.isp_events.specs.Views.{committed}
use Rattle.isp_events.specs.Ways.{Machine}
use Rattle.isp_events.specs.Next.{asks_key, steps, next}
use Rattle.isp_events.specs.Deadlocks.{Deadlock}
use Rattle.isp_events.specs.Asking.{after_key_lock}
use Rattle.isp_events.specs.Writing.{after_row}
use Rattle.isp_events.specs.Ending.{is_marked}
use Rattle.isp_events.specs.Purging.{is_taken, table_without, after_purge}
use Rattle.isp_events.specs.Events.{acts, purges, Choice, with_nothing, with_blockers, with_child, with_divisions, with_put, with_undo_pages, Event, MayFollow, after, after_all, after_kind, deadlocks_in}
use Rattle.isp_order.specs.Trees.{AreEntered, AreRestorable, HaveOneStatus}
use Rattle.isp_order.specs.Locks.{AreIntended, AreLocked, HaveNoCycle}
use Rattle.isp_order.specs.Searches.{AreCovered}
use Rattle.isp_order.specs.InOrder.{InOrder}
use Rattle.isp_event_examples.specs.Language.{any_row, point_at, with_key}
use Rattle.isp_event_examples.specs.Points.{adding_point, five, goes_down, machine_of, named_p, nothing, point_row, points_meeting, puts_on}
use Rattle.isp_event_examples.specs.WrongMachines.{Function, after_exchanged, live_queued, locks_go_early, numbers_not_undone}
use Rattle.isp_event_examples.specs.WrongRuns.{texts}
use Rattle.isp_order_examples.specs.ThreeSessions.{for_three, machine_of_three}

-- ---- states on the way

-- the session's events with these choices, and a purge
abbrev pub by : ℕ → List Choice → List Event
by s choices = map (λ (c : Choice). record { turn = 1; actor = acts s; choice = c }) choices

abbrev pub purged : List Event
purged = record { turn = 1; actor = purges; choice = with_nothing } ∷ []

-- the events lead to a state in order, and what the wrong event makes of it lacks the clause
pub record Breaks (m : Machine) (start : State) (events : List Event) (wrong : State → State) (Clause : State → Type 0) : Type 0 where
  pub happen : MayFollow m 1 1 start events
  pub in_order : InOrder m (after_all m start events)
  pub fails : Clause (wrong (after_all m start events)) → ⊥

-- the event of the session that comes next, by another function
abbrev pub exchanged : Machine → ℕ → Choice → Function → State → State
exchanged m s choice f state = after_exchanged m state s (next m state s) choice f

-- the purge of a row that may leave where the test says so
abbrev pub purge_by : (State → ℕ → ℤ → Bool) → State → List Queued → State
purge_by test state [] = state
purge_by test state (dead_entry entry ∷ queue) = after_purge state
purge_by test state (dead_row number key ∷ queue) = record state {
  tables = cond (test state number key) (change_table number (table_without key) state.tables) state.tables;
  queue = queue;
}

abbrev pub purge_where : (State → ℕ → ℤ → Bool) → State → State
purge_where test state = purge_by test state state.queue

-- ---- rows that are purged

abbrev pub delete_key : ℕ → Statement
delete_key key = Delete named_p (with_key key)

abbrev pub purging_statements : List Statement
purging_statements = delete_key 1 ∷ adding_point 1 0 0 ∷ Begin ∷ Delete named_p any_row ∷ []

-- session 2 deletes row 1 and adds it again; session 1 deletes, by its key or all rows
abbrev pub purging_machine : List ℕ → Machine
purging_machine first = machine_of purging_statements (texts first) (texts (0 ∷ 1 ∷ [])) []

-- a row that takes no page of the tree
abbrev pub writes_row : Choice
writes_row = puts_on 0 (18 ∷ [])

abbrev pub added_again : List Event
added_again = by 2 (nothing 2 ++ (writes_row ∷ nothing 3) ++ (goes_down (17 ∷ 19 ∷ []) ++ writes_row ∷ nothing 1))

-- the mark and the locks of keys, and not those of tables
abbrev pub looks_at_keys : State → ℕ → ℤ → Bool
looks_at_keys state number key = is_marked (kept_at (table_at state.tables number) key) && not (list_any (λ (lock : Lock). holds state.locks (key_lock lock.trx number key X)) state.locks)

-- the mark alone
abbrev pub looks_at_no_lock : State → ℕ → ℤ → Bool
looks_at_no_lock state number key = is_marked (kept_at (table_at state.tables number) key)

-- the locks alone
abbrev pub looks_at_no_mark : State → ℕ → ℤ → Bool
looks_at_no_mark state number key = not (is_taken state.locks number key)

-- session 1 has locked the table, and marked the row
abbrev pub scanned_away : List Event
scanned_away = added_again ++ (by 1 (nothing 3 ++ writes_row ∷ []) ++ purged)

-- session 1 has locked the key, and marked the row
abbrev pub deleted_again : List Event
deleted_again = added_again ++ (by 1 (nothing 3 ++ writes_row ∷ []) ++ purged)

abbrev pub restorable : State → Type 0
restorable state = AreRestorable state.tables state.sessions

-- ---- entries

abbrev pub move_to : ℕ → ℕ → Statement
move_to x y = Update named_p (record { column = 1; v = point_at x y } ∷ []) (with_key 1)

abbrev pub moving : Machine
moving = machine_of (move_to 1 1 ∷ []) (texts (0 ∷ [])) [] []

abbrev pub moved : List Event
moved = by 1 (nothing 2 ++ goes_down (17 ∷ 19 ∷ []) ++ writes_row ∷ [])

abbrev pub one_status : State → Type 0
one_status state = HaveOneStatus state.tables state.sessions state.queue

abbrev pub adding : Machine
adding = machine_of (adding_point 6 1 1 ∷ []) (texts (0 ∷ [])) [] []

-- the row is written in place of its entry's first step, with the number that the entry would get
abbrev pub row_first : Function
row_first m state s (steps d) (with_put p) = after_row state s d.table (adding_row (point_row 6 1 1)) ((d.column, state.entries) ∷ []) p
row_first m state s kind choice = after_kind m state s kind choice

abbrev pub entered : State → Type 0
entered state = AreEntered state.tables state.sessions

abbrev pub moving_back : Machine
moving_back = machine_of (Begin ∷ move_to 3 3 ∷ Rollback ∷ []) (texts (0 ∷ 1 ∷ 2 ∷ [])) [] []

abbrev pub moved_and_answered : List Event
moved_and_answered = by 1 (nothing 3 ++ goes_down (17 ∷ 19 ∷ []) ++ writes_row ∷ nothing 1)

-- ---- locks

abbrev pub deleting_two : Machine
deleting_two = machine_of (Begin ∷ delete_key 1 ∷ delete_key 2 ∷ Rollback ∷ []) (texts (0 ∷ 1 ∷ 2 ∷ 3 ∷ [])) [] []

abbrev pub two_deleted : List Event
two_deleted = by 1 (nothing 3 ++ (writes_row ∷ nothing 3) ++ (puts_on 0 [] ∷ nothing 1))

abbrev pub written_locked : State → Type 0
written_locked state = AreLocked state.locks state.sessions

-- each session has deleted the row that the other wants to delete
abbrev pub deleting_crosswise : Machine
deleting_crosswise = machine_of (Begin ∷ delete_key 1 ∷ delete_key 2 ∷ []) (texts (0 ∷ 1 ∷ 2 ∷ [])) (texts (0 ∷ 2 ∷ 1 ∷ [])) []

abbrev pub blocked_by : ℕ → List Deadlock → Choice
blocked_by s ds = with_blockers (record { trx = s; held = X } ∷ []) ds

abbrev pub crosswise : List Event
crosswise =
    by 1 (nothing 3 ++ writes_row ∷ nothing 1)
    ++ (by 2 (nothing 3 ++ puts_on 0 (21 ∷ []) ∷ nothing 1) ++ (by 1 (nothing 1 ++ blocked_by 2 [] ∷ []) ++ by 2 (nothing 1)))

abbrev pub two_gives_way : Choice
two_gives_way = blocked_by 1 (record { members = 2 ∷ 1 ∷ []; victim = 2 } ∷ [])

abbrev pub without_victims : List Lock → List Deadlock → List Lock
without_victims locks [] = locks
without_victims locks (d ∷ ds) = without_victims (locks_without locks d.victim) ds

-- a victim's locks go as it is chosen
abbrev pub victims_let_go : Function
victims_let_go m state s kind choice = record (after_kind m state s kind choice) { locks = without_victims state.locks (deadlocks_in choice) }

abbrev pub deleting : Machine
deleting = machine_of (delete_key 1 ∷ []) (texts (0 ∷ [])) [] []

-- the key is locked with S, and then the row is marked
abbrev pub shared_lock : Function
shared_lock m state s (asks_key number key mode) choice = after_key_lock state s number key S
shared_lock m state s kind choice = after_kind m state s kind choice

abbrev pub marks_behind_shared : State → State
marks_behind_shared state = after deleting (exchanged deleting 1 with_nothing shared_lock state) (acts 1) writes_row

-- ---- searches

abbrev pub searching_and_adding : Machine
searching_and_adding = machine_of (Begin ∷ points_meeting 0 0 9 9 ∷ adding_point 6 5 9 ∷ []) (texts (0 ∷ 1 ∷ 2 ∷ [])) [] []

abbrev pub gone_down : List Event
gone_down = by 1 (nothing 9 ++ with_child 17 ∷ with_child 20 ∷ [])

-- a search of the session that places is left as it was
abbrev pub left_own : ℕ → List TreeSearch → List TreeSearch → List TreeSearch
left_own s (x ∷ before) (y ∷ now) = cond (x.search.session == s) x y ∷ left_own s before now
left_own s before now = now

abbrev pub own_unattached : Function
own_unattached m state s kind choice =
    let right = after_kind m state s kind choice in
    record right { searches = left_own s state.searches right.searches }

abbrev pub covered : State → Type 0
covered state = AreCovered state.tables state.searches

abbrev pub searching_once : Machine
searching_once = machine_of (points_meeting 0 0 9 9 ∷ []) (texts (0 ∷ [])) [] []

-- searches stay behind the end of their transaction
abbrev pub searches_stay : Function
searches_stay m state s kind choice = record (after_kind m state s kind choice) { searches = state.searches }

abbrev pub intended : State → Type 0
intended state = AreIntended state.locks state.searches

-- ---- waits

-- sessions 2 and 3 have read key 2 and wait for session 1, which has deleted key 1 and wants to delete key 2
abbrev pub reading_crosswise : Machine
reading_crosswise =
    machine_of_three (Begin ∷ delete_key 1 ∷ delete_key 2 ∷ Select named_p (0 ∷ []) (with_key 1) ∷ Select named_p (0 ∷ []) (with_key 2) ∷ [])
    (texts (0 ∷ 1 ∷ 2 ∷ [])) (texts (0 ∷ 4 ∷ 3 ∷ [])) (texts (0 ∷ 4 ∷ 3 ∷ []))

abbrev pub both_waiting : List Event
both_waiting =
    by 1 (nothing 3 ++ writes_row ∷ nothing 1)
    ++ (by 2 (nothing 4) ++ (by 3 (nothing 4) ++ (by 2 (nothing 1 ++ blocked_by 1 [] ∷ []) ++ (by 3 (nothing 1 ++ blocked_by 1 [] ∷ []) ++ by 1 (nothing 1)))))

-- of the two cycles that its wait makes, one is broken
abbrev pub one_of_two : Choice
one_of_two = with_blockers (record { trx = 2; held = S } ∷ record { trx = 3; held = S } ∷ []) (record { members = 1 ∷ 2 ∷ []; victim = 2 } ∷ [])

abbrev pub right_way : Function
right_way m state s kind choice = after_kind m state s kind choice

abbrev pub no_cycle : State → Type 0
no_cycle state = HaveNoCycle state.waits

-- ---- all of them

pub record WrongEventsBreak : Type 0 where
  pub key_locks_alone : Breaks (purging_machine (2 ∷ 3 ∷ [])) five scanned_away (purge_where looks_at_keys) restorable
  pub no_locks : Breaks (purging_machine (2 ∷ 0 ∷ [])) five deleted_again (purge_where looks_at_no_lock) restorable
  -- the committed tables change with a purge
  pub unmarked : Breaks (purging_machine []) five (added_again ++ purged) (purge_where looks_at_no_mark)
      (λ state. committed state ≡ committed (after_all (purging_machine []) five (added_again ++ purged)))
  pub live_entries : Breaks moving five moved (exchanged moving 1 with_nothing live_queued) one_status
  pub row_before_entries : Breaks adding five (by 1 (nothing 2)) (exchanged adding 1 (puts_on 16 (18 ∷ [])) row_first) entered
  pub numbers_not_undone : Breaks moving_back five moved_and_answered (exchanged moving_back 1 (with_undo_pages 0) numbers_not_undone) entered
  pub rollback_lets_go : Breaks deleting_two five two_deleted (exchanged deleting_two 1 (with_undo_pages 0) locks_go_early) written_locked
  pub victim_lets_go : Breaks deleting_crosswise five crosswise (exchanged deleting_crosswise 2 two_gives_way victims_let_go) written_locked
  pub shared_for_delete : Breaks deleting five (by 1 (nothing 1)) marks_behind_shared written_locked
  pub own_unattached : Breaks searching_and_adding five gone_down (exchanged searching_and_adding 1 (with_divisions 0 []) own_unattached) covered
  pub searches_stay : Breaks searching_once five (by 1 (nothing 5)) (exchanged searching_once 1 with_nothing searches_stay) intended
  pub one_broken : Breaks reading_crosswise for_three both_waiting (exchanged reading_crosswise 1 one_of_two right_way) no_cycle
