-- Every event, by its kind; and all events of a run.
use Rattle.std.proofs.Common.{◌≡◌, ◌⊎◌, ◌∙◌, inl, inr, refl, sym, ap, subst, ℕ, Bool, true, false, Option, Some, None, List, [], ◌∷◌, ◌++◌, append-nil}
use Rattle.std.specs.Prelude.{filter_map}
use Rattle.std.specs.List.{cons_option}
use Rattle.std.proofs.lemmas.List.Elements.{filter_map-append}
use Rattle.isp_plain.specs.Tables.{Table}
use Rattle.isp_serial.specs.Answers.{Answer}
use Rattle.isp_serial.specs.Serial.{EndsAll, Pending, Replays, none_pending}
use Rattle.isp_serial.proofs.AloneLaws.{joined}
use Rattle.isp_reclock.specs.Tables.{key_lock, table_lock}
use Rattle.isp_events.specs.Sessions.{session_at}
use Rattle.isp_events.specs.State.{State, Queued}
use Rattle.isp_events.specs.Views.{committed}
use Rattle.isp_events.specs.Ways.{Machine}
use Rattle.isp_events.specs.Lines.{Line, Whose, answer_in, answers_in}
use Rattle.isp_events.specs.Next.{EventKind, answers, undoes, creates, asks_table, asks_key, visits, scans, steps, goes_stale, finds_full, places, writes, next}
use Rattle.isp_events.specs.Deadlocks.{Deadlock, after_refusal, deadlock_lines}
use Rattle.isp_events.specs.Asking.{after_key_lock, after_table_lock}
use Rattle.isp_events.specs.Placing.{after_full, after_place, after_stale, after_step, in_the_way, sessions_on}
use Rattle.isp_events.specs.Reading.{after_scan, after_visit}
use Rattle.isp_events.specs.Writing.{after_row}
use Rattle.isp_events.specs.Ending.{after_undo, is_over_after}
use Rattle.isp_events.specs.Purging.{after_purge}
use Rattle.isp_events.specs.Events.{Actor, acts, purges, flushes, lists_locks, Choice, with_nothing, with_blockers, with_deadlocks, with_child, with_divisions, with_put, with_undo_pages, with_roots, with_flushed, Event, Events, MayChoose, MayFollow, MayGoOn, MayHappen, after, after_all, after_kind, after_next, blockers_of, full_reply, lines_next, lines_of, lines_of_all, lines_purging, whose_of}
use Rattle.isp_order.specs.InOrder.{InOrder, IsProper, IsRested}
use Rattle.isp_order.proofs.RestedLaws.{in_order}
use Rattle.isp_causes.specs.Causes.{IsCaused, IsLockingKey, IsLockingRow}
use Rattle.isp_causes.proofs.CauseLaws.{is_caused}
use Rattle.isp_order_locks.proofs.LockedLaws.{keeps_all}
use Rattle.isp_order_whole.proofs.WholeLaws.{order_kept}
use Rattle.isp_replies.specs.Replies.{Reason}
use Rattle.isp_replies.proofs.ReasonLaws.{has_reason}
use Rattle.isp_answers.specs.Course.{AreOnCourse}
use Rattle.isp_answers.specs.Told.{AreTold}
use Rattle.isp_answers.proofs.RestedLaws.{rested_told}
use Rattle.isp_views.specs.Views.{IsUnmoved}
use Rattle.isp_views.proofs.MovedLaws.{calm, calm_itself, full_unmoved, lock_key_unmoved, lock_table_unmoved, place_unmoved, purge_unmoved, refuse_unmoved, row_unmoved, scan_unmoved, stale_unmoved, step_unmoved, undo_unmoved, visit_unmoved}
use Rattle.isp_course.proofs.CourseLaws.{course_kept}
use Rattle.isp_serial_laws.specs.SerialLaws.{AreReplayed, EventsAreReplayed, EventsTell, ToldAfter}
use Rattle.isp_serial_laws.proofs.StandLaws.{KeepsHeld, stand_replays}
use Rattle.isp_serial_laws.proofs.KeptLaws.{committed_unmoved, held_by_locks, held_placed, held_visited, told_unmoved}
use Rattle.isp_serial_laws.proofs.AnswerLaws.{answer_tells_end, answer_tells_more, create_tells, create_tells_full}

-- no deadlock's line is an answer
no_answers : (turn : ℕ) (whose : Whose) (ds : List Deadlock) → answers_in (deadlock_lines turn whose ds) ≡ []
no_answers turn whose [] = refl
no_answers turn whose (d ∷ ds) = no_answers turn whose ds

module _ (m : Machine) (state : State) (turn : ℕ) (good : IsProper m) (o : InOrder m state) (course : AreOnCourse state) (pending : Pending) (told : AreTold m state pending) where
  -- an event that answers nothing
  quiet : (now : State) → InOrder m now → IsUnmoved m state now → ((s : ℕ) → KeepsHeld state now s) → ToldAfter m state pending [] now
  quiet now onow u held = record {
    left = pending;
    ended = (committed_unmoved m state good o now onow u, refl);
    told = told_unmoved m state good o now pending onow u held told;
  }

  -- with the lines of its deadlocks
  told_by : (now : State) (whose : Whose) (ds : List Deadlock) (given : List Answer) → ToldAfter m state pending given now
      → ToldAfter m state pending (given ++ answers_in (deadlock_lines turn whose ds)) now
  told_by now whose ds given h =
      subst (λ xs. ToldAfter m state pending (given ++ xs) now) (sym (no_answers turn whose ds)) (subst (λ xs. ToldAfter m state pending xs now) (sym (append-nil given)) h)

  module _ (s : ℕ) (w : Whose) where
    kind_tells : (kind : EventKind) (choice : Choice) → IsCaused m state s kind → Reason m state s (session_at state.sessions s) kind → MayChoose state s kind choice
        → InOrder m (after_kind m state s kind choice) → ToldAfter m state pending (answers_in (lines_next state turn s (Some kind) choice)) (after_kind m state s kind choice)
    kind_tells (answers r true) with_nothing c why h onow =
        answer_tells_end m state good o course pending told turn s c.active r (is_over_after m s (session_at state.sessions s).number r) onow why
    kind_tells (answers r false) with_nothing c why h onow =
        answer_tells_more m state good o course pending told turn s c.active r (is_over_after m s (session_at state.sessions s).number r) why
    kind_tells (undoes entry) (with_undo_pages more) c why h onow =
        quiet (after_undo state s entry more) onow (undo_unmoved m state good o s entry more c.active c.cause why) (held_by_locks m state good o (after_undo state s entry more) refl (λ j table key mode taken. taken))
    kind_tells (creates name schema) with_nothing c why h onow =
        create_tells_full m state good o course pending told turn s c.active name schema (is_over_after m s (session_at state.sessions s).number full_reply) c.cause onow
    kind_tells (creates name schema) (with_roots leaf roots) c why h onow =
        create_tells m state good o course pending told turn s c.active name schema _ leaf roots c.cause
    kind_tells (asks_table statement number mode) with_nothing c why h onow =
        quiet (after_table_lock state m.ways s statement number mode) onow (lock_table_unmoved m state good o s statement number mode c.cause.first.no_work)
        (held_by_locks m state good o (after_table_lock state m.ways s statement number mode) refl (λ j. keeps_all state.locks (table_lock s number mode) j))
    kind_tells (asks_table statement number mode) (with_blockers by ds) c why h onow =
        told_by (after_refusal state s (blockers_of by) ds) (whose_of state s) ds [] (quiet (after_refusal state s (blockers_of by) ds) onow (refuse_unmoved m state good o s (blockers_of by) ds) (held_by_locks m state good o (after_refusal state s (blockers_of by) ds) refl (λ j table key mode taken. taken)))
    kind_tells (asks_key number key mode) with_nothing c why h onow =
        quiet (after_key_lock state s number key mode) onow (lock_key_unmoved m state good o s number key mode)
        (held_by_locks m state good o (after_key_lock state s number key mode) refl (λ j. keeps_all state.locks (key_lock s number key mode) j))
    kind_tells (asks_key number key mode) (with_blockers by ds) c why h onow =
        told_by (after_refusal state s (blockers_of by) ds) (whose_of state s) ds [] (quiet (after_refusal state s (blockers_of by) ds) onow (refuse_unmoved m state good o s (blockers_of by) ds) (held_by_locks m state good o (after_refusal state s (blockers_of by) ds) refl (λ j table key mode taken. taken)))
    kind_tells (visits number column predicate) with_nothing c why h onow =
        quiet (after_visit state s number column predicate) onow (visit_unmoved m state good o s number column predicate) (held_visited m state good o s number column predicate c.cause)
    kind_tells (scans number leaf) with_nothing c why h onow = quiet (after_scan state s number leaf) onow (scan_unmoved m state good o s number leaf) (held_by_locks m state good o (after_scan state s number leaf) refl (λ j table key mode taken. taken))
    kind_tells (steps d) (with_child q) c why h onow = quiet (after_step state s d q) onow (step_unmoved m state good o s d q) (held_by_locks m state good o (after_step state s d q) refl (λ j table key mode taken. taken))
    kind_tells (goes_stale d) with_nothing c why h onow = quiet (after_stale state s) onow (stale_unmoved m state good o s) (held_by_locks m state good o (after_stale state s) refl (λ j table key mode taken. taken))
    kind_tells finds_full with_nothing c why h onow = quiet (after_full state s) onow (full_unmoved m state good o s) (held_by_locks m state good o (after_full state s) refl (λ j table key mode taken. taken))
    kind_tells (places d) (with_deadlocks ds) c why h onow =
        told_by (after_refusal state s (sessions_on (in_the_way state s d)) ds) (whose_of state s) ds []
        (quiet (after_refusal state s (sessions_on (in_the_way state s d)) ds) onow (refuse_unmoved m state good o s (sessions_on (in_the_way state s d)) ds) (held_by_locks m state good o (after_refusal state s (sessions_on (in_the_way state s d)) ds) refl (λ j table key mode taken. taken)))
    kind_tells (places d) (with_divisions q ds) c why h onow = quiet (after_place state s d q ds) onow (place_unmoved m state good o s d q ds) (held_placed m state good o s d q ds)
    kind_tells (writes number change placed) (with_put p) c why h onow =
        quiet (after_row state s number change placed p) onow (row_unmoved m state good o s number change placed p c.active c.cause h) (held_by_locks m state good o (after_row state s number change placed p) refl (λ j table key mode taken. taken))
    kind_tells kind choice c why h onow = absurd h

  next_tells : (s : ℕ) (kind : Option EventKind) (choice : Choice) → next m state s ≡ kind → MayGoOn state s kind choice → InOrder m (after_next m state s kind choice)
      → ToldAfter m state pending (answers_in (lines_next state turn s kind choice)) (after_next m state s kind choice)
  next_tells s None choice e h onow = absurd h
  next_tells s (Some kind) choice e h onow = kind_tells s (whose_of state s) kind choice (is_caused m state s kind e) (has_reason m state s kind e) h onow

  still : ToldAfter m state pending [] state
  still = record { left = pending; ended = (refl, refl); told = told }

  purge_quiet : (queue : List Queued) → answers_in (lines_purging state turn queue) ≡ []
  purge_quiet [] = refl
  purge_quiet (item ∷ queue) = refl

  pub tells : (actor : Actor) (choice : Choice) → MayHappen m state actor choice → InOrder m (after m state actor choice)
      → ToldAfter m state pending (answers_in (lines_of m state turn actor choice)) (after m state actor choice)
  tells (acts s) choice h onow = next_tells s (next m state s) choice refl h onow
  tells purges with_nothing h onow = subst (λ xs. ToldAfter m state pending xs (after_purge state)) (sym (purge_quiet state.queue)) (quiet (after_purge state) onow (purge_unmoved m state good o) (held_by_locks m state good o (after_purge state) refl (λ j table key mode taken. taken)))
  tells flushes (with_flushed n) h onow = still
  tells lists_locks with_nothing h onow = still
  tells actor choice h onow = absurd h

pub events_tell : EventsTell
events_tell m state turn actor choice pending good o course told happens =
    tells m state turn good o course pending told actor choice happens (order_kept m state actor choice good o happens)

-- ---- all events

pub all_tell : (m : Machine) (first last : ℕ) (state : State) (events : List Event) (pending : Pending) → IsProper m → InOrder m state → AreOnCourse state → AreTold m state pending
    → MayFollow m first last state events → ToldAfter m state pending (answers_in (lines_of_all m state events)) (after_all m state events)
all_tell m first last state [] pending good o course told happen = record { left = pending; ended = (refl, refl); told = told }
all_tell m first last state (e ∷ events) pending good o course told happen =
    let now : State = after m state e.actor e.choice in
    let onow : InOrder m now = order_kept m state e.actor e.choice good o happen.1 in
    let one : ToldAfter m state pending (answers_in (lines_of m state e.turn e.actor e.choice)) now = tells m state e.turn good o course pending told e.actor e.choice happen.1 onow in
    let rest : ToldAfter m now one.left (answers_in (lines_of_all m now events)) (after_all m now events) =
    all_tell m e.turn last now events one.left good onow (course_kept m state e.actor e.choice good o course happen.1) one.told happen.2 in
    record {
      left = rest.left;
      ended = subst (λ xs. EndsAll m.language m.script (committed state) pending xs (committed (after_all m now events)) rest.left)
          (sym (filter_map-append answer_in (lines_of m state e.turn e.actor e.choice) (lines_of_all m now events)))
          (joined m.language m.script (committed state) (committed now) (committed (after_all m now events)) pending one.left rest.left
          (answers_in (lines_of m state e.turn e.actor e.choice)) (answers_in (lines_of_all m now events)) one.ended rest.ended);
      told = rest.told;
    }

pub events_are_replayed : EventsAreReplayed
events_are_replayed m first last before left lines good rested events =
    let r = rested_told m before rested in
    let all : ToldAfter m before none_pending (answers_in (lines_of_all m before events.events)) (after_all m before events.events) =
    all_tell m first last before events.events none_pending good (in_order m before rested) r.on_course r.told events.happen in
    record {
      pending = all.left;
      ended = subst (λ ls. EndsAll m.language m.script (committed before) none_pending (answers_in ls) (committed left) all.left) events.told
          (subst (λ st. EndsAll m.language m.script (committed before) none_pending (answers_in (lines_of_all m before events.events)) (committed st) all.left) events.ends all.ended);
      told = subst (λ st. AreTold m st all.left) events.ends all.told;
      still_open = λ s. (let open' = all.told s in
          subst (λ st. (replayed : List Table) × Replays m.language m.script false (committed st) (all.left s) replayed) events.ends
          (open'.left, stand_replays m (after_all m before events.events) s false (committed (after_all m before events.events)) (all.left s) open'.left open'.stand));
    }
