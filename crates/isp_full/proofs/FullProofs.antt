-- A failure for want of room has its line, event by event.
use Rattle.std.proofs.Common.{◌≡◌, ◌⊎◌, ◌∙◌, inl, inr, refl, sym, ap, subst, ℕ, ℤ, ◌==◌, ◌||◌, Bool, true, false, cond, Option, Some, None, List, [], ◌∷◌, ◌++◌, append_assoc, append-nil, eqb-true}
use Rattle.std.specs.Prelude.{slice_set}
use Rattle.std.specs.Option.{option_map}
use Rattle.std.proofs.lemmas.Bool.{false≢true}
use Rattle.isp_base.specs.Lists.{Has}
use Rattle.isp_laws.proofs.ListLaws.{Has-append_left, Has-append_right}
use Rattle.isp_plain.specs.declared.refusal.Refusal.{Refusal}
use Rattle.isp_plain.specs.declared.refusal.Refusal.TheVariants.{FileFull}
use Rattle.isp_plain.specs.declared.statement.Reply.{Reply}
use Rattle.isp_plain.specs.declared.statement.Reply.TheVariants as says
use Rattle.isp_plain.specs.declared.statement.Statement.{Statement}
use Rattle.isp_plain.specs.declared.statement.Statement.TheVariants.{Create, Insert, Select, Update, Delete, Begin, Commit, Rollback, Refused}
use Rattle.isp_plain.specs.declared.value.Row.{Row}
use Rattle.isp_plain.proofs.DoesLaws.{IsOwn}
use Rattle.isp_serial.specs.Alone.{MayMean}
use Rattle.isp_serial.specs.Answers.{Answer, is_full}
use Rattle.isp_serial.specs.Serial.{place_at}
use Rattle.isp_events.specs.Stored.{Leaf, StoredTable, present, row_of, table_at}
use Rattle.isp_events.specs.Sessions.{Change, Failure, duplicate, too_large, file_full, Phase, locking, scanning, writing, unlocked, SessionState, Work, outgrows_by, session_at}
use Rattle.isp_events.specs.State.{State, has_room}
use Rattle.isp_events.specs.Views.{committed}
use Rattle.isp_events.specs.Ways.{Machine}
use Rattle.isp_events.specs.Lines.{Line, Whose, answers_in, found_full, of_session, traced}
use Rattle.isp_events.specs.Next.{EventKind, answers, undoes, creates, asks_table, asks_key, visits, scans, steps, goes_stale, finds_full, places, writes, failure_reply, next, reply_of}
use Rattle.isp_events.specs.Deadlocks.{Deadlock, after_refusal, as_victim, deadlock_lines, with_victims}
use Rattle.isp_events.specs.Asking.{failure_of_duplicate, failure_of_found, failure_with, noted, work_after_key}
use Rattle.isp_events.specs.Reading.{rows_in, some_outgrow, work_after_scan}
use Rattle.isp_events.specs.Placing.{in_the_way, sessions_on}
use Rattle.isp_events.specs.Events.{Actor, acts, purges, flushes, lists_locks, Choice, with_nothing, with_blockers, with_deadlocks, with_child, with_divisions, with_put, with_undo_pages, with_roots, with_flushed, Event, Events, MayChoose, MayFollow, MayGoOn, MayHappen, after, after_all, after_kind, after_next, blockers_of, full_reply, lines_next, lines_of, lines_of_all, whose_of}
use Rattle.isp_order.specs.InOrder.{InOrder, IsProper, IsRested}
use Rattle.isp_order.proofs.RestedLaws.{in_order}
use Rattle.isp_order.proofs.SessionLaws.{other_at, same_at, seated, victims_keep}
use Rattle.isp_causes.specs.Causes.{GoesOn, IsActive, IsAtFirst, IsCaused, IsLockingKey, IsLockingRow}
use Rattle.isp_causes.proofs.CauseLaws.{is_caused}
use Rattle.isp_order_trees.proofs.NoteParts.{set_relates}
use Rattle.isp_order_whole.proofs.WholeLaws.{order_kept}
use Rattle.isp_replies.specs.Replies.{AnswersFirst, Reason, Replies, RepliesDone, RepliesEnd, RepliesFailed, RepliesFirst, RepliesVictim}
use Rattle.isp_replies.proofs.ReasonLaws.{has_reason}
use Rattle.isp_replies.proofs.TextFacts.{answer_to, deadlock_not_full, end_not_full, own_not_full}
use Rattle.isp_full.specs.FullLaws.{FullIsCaused, IsFoundFull, IsWithoutRoom}

some_is : {X : Type 0} (x y : X) → Some x ≡ Some y → x ≡ y
some_is x y h = cc

none_some : {X : Type 0} (x : X) → None ≡ Some x → ⊥
none_some x h = cc

-- each failure for want of room has its line
abbrev HaveLines : State → List Line → Type 0
HaveLines state lines = (s : ℕ) (work : Work) → (session_at state.sessions s).work ≡ Some work → work.failure ≡ Some file_full → IsFoundFull lines s (session_at state.sessions s).number

more_lines : (lines more : List Line) (s number : ℕ) → IsFoundFull lines s number → IsFoundFull (lines ++ more) s number
more_lines lines more s number f = record { line = f.line; among = Has-append_left lines more f.line f.among; whose = f.whose; told = f.told }

-- ---- no other failure is one

large_full : too_large ≡ file_full → ⊥
large_full h = cc

duplicate_full : (key : ℤ) → duplicate key ≡ file_full → ⊥
duplicate_full key h = cc

found_not_full : (table : StoredTable) (statement : Statement) (row : Option Row) → failure_of_found table statement row None ≡ Some file_full → ⊥
found_not_full table statement None h = none_some file_full h
found_not_full table statement (Some r) h = by_test (outgrows_by table.schema statement r) h
  where
    by_test : (b : Bool) → noted b too_large None ≡ Some file_full → ⊥
    by_test true e = large_full (some_is too_large file_full e)
    by_test false e = none_some file_full e

duplicate_not_full : (key : ℤ) (row : Option Row) → failure_of_duplicate key row None ≡ Some file_full → ⊥
duplicate_not_full key None h = none_some file_full h
duplicate_not_full key (Some r) h = duplicate_full key (some_is (duplicate key) file_full h)

noted_not_full : (b : Bool) → noted b too_large None ≡ Some file_full → ⊥
noted_not_full true h = large_full (some_is too_large file_full h)
noted_not_full false h = none_some file_full h

-- ---- each event

module _ (m : Machine) (state : State) (turn : ℕ) (good : IsProper m) (o : InOrder m state) (lines : List Line) (have : HaveLines state lines) where
  -- what a session's event leaves of each session: its failure for want of room, if there is one, was there, or has its line
  abbrev Explains : List Line → ℕ → SessionState → SessionState → Type 0
  Explains more s before now = (work : Work) → now.work ≡ Some work → work.failure ≡ Some file_full
      → ((now.number ≡ before.number) × ((old : Work) × (before.work ≡ Some old) × (old.failure ≡ Some file_full))) ⊎ IsFoundFull more s now.number

  kept : (now : State) (more : List Line) → ((k : ℕ) → Explains more k (session_at state.sessions k) (session_at now.sessions k)) → HaveLines now (lines ++ more)
  kept now more each s work at failed = by_case (each s work at failed)
    where
      by_case : (((session_at now.sessions s).number ≡ (session_at state.sessions s).number)
          × ((old : Work) × ((session_at state.sessions s).work ≡ Some old) × (old.failure ≡ Some file_full))) ⊎ IsFoundFull more s (session_at now.sessions s).number
          → IsFoundFull (lines ++ more) s (session_at now.sessions s).number
      by_case (inl h) =
          subst (λ n. IsFoundFull (lines ++ more) s n) (sym h.0) (more_lines lines more s (session_at state.sessions s).number (have s h.1.0 h.1.1 h.1.2))
      by_case (inr f) = record { line = f.line; among = Has-append_right lines more f.line f.among; whose = f.whose; told = f.told }

  same_explains : (more : List Line) (k : ℕ) (x : SessionState) → Explains more k x x
  same_explains more k x work at failed = inl (refl, (work, at, failed))

  one : (now : State) (more : List Line) (s : ℕ) (new : SessionState) → now.sessions ≡ slice_set state.sessions s new → IsActive state s
      → Explains more s (session_at state.sessions s) new → HaveLines now (lines ++ more)
  one now more s new is active own = kept now more (λ k. by_session k (k == s) refl)
    where
      by_session : (k : ℕ) (b : Bool) → (k == s) ≡ b → Explains more k (session_at state.sessions k) (session_at now.sessions k)
      by_session k true e =
          subst (λ i. Explains more i (session_at state.sessions i) (session_at now.sessions i)) (sym (eqb-true k s e))
          (subst (λ (x : SessionState). Explains more s (session_at state.sessions s) x)
          (sym (ap (λ xs. session_at xs s) is ∙ same_at state.sessions s new (seated state.sessions s active.not_over))) own)
      by_session k false e =
          subst (λ (x : SessionState). Explains more k (session_at state.sessions k) x) (sym (ap (λ xs. session_at xs k) is ∙ other_at state.sessions s k new e))
          (same_explains more k (session_at state.sessions k))

  -- its work goes on, with the same failure
  goes : (now : State) (more : List Line) (s : ℕ) (new : SessionState) (f : Work → Work) → now.sessions ≡ slice_set state.sessions s new → IsActive state s
      → new.number ≡ (session_at state.sessions s).number → new.work ≡ option_map f (session_at state.sessions s).work → ((w : Work) → (f w).failure ≡ w.failure) → HaveLines now (lines ++ more)
  goes now more s new f is active number work same =
      one now more s new is active (λ w at failed. inl (by_old w (session_at state.sessions s).work refl (sym work ∙ at) failed))
    where
      by_old : (w : Work) (old : Option Work) → (session_at state.sessions s).work ≡ old → option_map f old ≡ Some w → w.failure ≡ Some file_full
          → (new.number ≡ (session_at state.sessions s).number) × ((x : Work) × ((session_at state.sessions s).work ≡ Some x) × (x.failure ≡ Some file_full))
      by_old w None e h failed = absurd (none_some w h)
      by_old w (Some x) e h failed = (number, (x, e, sym (same x) ∙ ap (λ (y : Work). y.failure) (some_is (f x) w h) ∙ failed))

  -- it has a failure that is none for want of room
  not_full : (now : State) (more : List Line) (s : ℕ) (new : SessionState) (f : Work → Work) (work : Work) → now.sessions ≡ slice_set state.sessions s new → IsActive state s
      → GoesOn (session_at state.sessions s) work → new.work ≡ option_map f (session_at state.sessions s).work → ((f work).failure ≡ Some file_full → ⊥) → HaveLines now (lines ++ more)
  not_full now more s new f work is active go becomes none =
      one now more s new is active (λ w at failed. absurd (none (ap (λ (y : Work). y.failure) (some_is (f work) w (sym (ap (option_map f) go.at_work) ∙ sym becomes ∙ at)) ∙ failed)))

  without_work : (now : State) (more : List Line) (s : ℕ) (new : SessionState) → now.sessions ≡ slice_set state.sessions s new → IsActive state s → new.work ≡ None → HaveLines now (lines ++ more)
  without_work now more s new is active none = one now more s new is active (λ w at failed. absurd (none_some w (sym none ∙ at)))

  refused : (s : ℕ) (on : List ℕ) (ds : List Deadlock) (more : List Line) → HaveLines (after_refusal state s on ds) (lines ++ more)
  refused s on ds more = kept (after_refusal state s on ds) more (λ k work at failed. inl (
    victims_keep (λ (x : SessionState). x.number) (λ x. refl) state.sessions ds k,
    (work, sym (victims_keep (λ (x : SessionState). x.work) (λ x. refl) state.sessions ds k) ∙ at, failed),
  ))

  kind_explains : (s : ℕ) (kind : EventKind) (choice : Choice) → IsCaused m state s kind → MayChoose state s kind choice
      → HaveLines (after_kind m state s kind choice) (lines ++ lines_next state turn s (Some kind) choice)
  kind_explains s (answers r true) with_nothing c h = without_work (after_kind m state s (answers r true) with_nothing) (lines_next state turn s (Some (answers r true)) with_nothing) s _ refl c.active refl
  kind_explains s (answers r false) with_nothing c h = without_work (after_kind m state s (answers r false) with_nothing) (lines_next state turn s (Some (answers r false)) with_nothing) s _ refl c.active refl
  kind_explains s (undoes entry) (with_undo_pages more) c h = one (after_kind m state s (undoes entry) (with_undo_pages more)) (lines_next state turn s (Some (undoes entry)) (with_undo_pages more)) s _ refl c.active (λ w at failed. inl (refl, (w, at, failed)))
  kind_explains s (creates name schema) with_nothing c h = without_work (after_kind m state s (creates name schema) with_nothing) (lines_next state turn s (Some (creates name schema)) with_nothing) s _ refl c.active refl
  kind_explains s (creates name schema) (with_roots leaf roots) c h = without_work (after_kind m state s (creates name schema) (with_roots leaf roots)) (lines_next state turn s (Some (creates name schema)) (with_roots leaf roots)) s _ refl c.active refl
  kind_explains s (asks_table statement number mode) with_nothing c h =
      one (after_kind m state s (asks_table statement number mode) with_nothing) (lines_next state turn s (Some (asks_table statement number mode)) with_nothing) s _ refl c.active (λ w at failed. absurd (none_some file_full (ap (λ (x : Work). x.failure) (some_is _ w at) ∙ failed)))
  kind_explains s (asks_table statement number mode) (with_blockers by ds) c h = refused s (blockers_of by) ds (lines_next state turn s (Some (asks_table statement number mode)) (with_blockers by ds))
  kind_explains s (asks_key number key mode) with_nothing c h = by_cause c.cause
    where
      table : StoredTable
      table = table_at state.tables number

      row : Option Row
      row = row_of (present table key)

      by_cause : IsLockingKey (session_at state.sessions s) number key mode ⊎ IsLockingRow (session_at state.sessions s) number key mode
          → HaveLines (after_kind m state s (asks_key number key mode) with_nothing) (lines ++ lines_next state turn s (Some (asks_key number key mode)) with_nothing)
      by_cause (inl at) =
          not_full (after_kind m state s (asks_key number key mode) with_nothing) (lines_next state turn s (Some (asks_key number key mode)) with_nothing) s _ (work_after_key table row) at.work refl c.active at.goes_on refl
          (λ e. found_not_full table at.work.statement row (ap (failure_of_found table at.work.statement row) (sym at.goes_on.unfailed)
          ∙ sym (ap (λ (p : Phase). failure_with table at.work.statement p row at.work.failure) at.phase) ∙ e))
      by_cause (inr at) =
          not_full (after_kind m state s (asks_key number key mode) with_nothing) (lines_next state turn s (Some (asks_key number key mode)) with_nothing) s _ (work_after_key table row) at.work refl c.active at.goes_on refl
          (λ e. duplicate_not_full at.change.key row (ap (failure_of_duplicate at.change.key row) (sym at.goes_on.unfailed)
          ∙ sym (ap (λ (p : Phase). failure_with table at.work.statement p row at.work.failure) at.phase) ∙ e))
  kind_explains s (asks_key number key mode) (with_blockers by ds) c h = refused s (blockers_of by) ds (lines_next state turn s (Some (asks_key number key mode)) (with_blockers by ds))
  kind_explains s (visits number column predicate) with_nothing c h = goes (after_kind m state s (visits number column predicate) with_nothing) (lines_next state turn s (Some (visits number column predicate)) with_nothing) s _ _ refl c.active refl refl (λ w. refl)
  kind_explains s (scans number leaf) with_nothing c h =
      not_full (after_kind m state s (scans number leaf) with_nothing) (lines_next state turn s (Some (scans number leaf)) with_nothing) s _ (work_after_scan (table_at state.tables number) leaf) c.cause.work refl c.active c.cause.goes_on refl
      (λ e. noted_not_full (some_outgrow (table_at state.tables number).schema c.cause.work.statement (rows_in leaf))
      (ap (noted (some_outgrow (table_at state.tables number).schema c.cause.work.statement (rows_in leaf)) too_large) (sym c.cause.goes_on.unfailed) ∙ e))
  kind_explains s (steps d) (with_child q) c h = goes (after_kind m state s (steps d) (with_child q)) (lines_next state turn s (Some (steps d)) (with_child q)) s _ _ refl c.active refl refl (λ w. refl)
  kind_explains s (goes_stale d) with_nothing c h = goes (after_kind m state s (goes_stale d) with_nothing) (lines_next state turn s (Some (goes_stale d)) with_nothing) s _ _ refl c.active refl refl (λ w. refl)
  kind_explains s finds_full with_nothing c h =
      one (after_kind m state s finds_full with_nothing) (lines_next state turn s (Some finds_full) with_nothing) s _ refl c.active (λ w at failed. inr (record {
        line = record { turn = turn; whose = whose_of state s; told = traced found_full };
        among = inl refl;
        whose = refl;
        told = refl;
      }))
  kind_explains s (places d) (with_deadlocks ds) c h = refused s (sessions_on (in_the_way state s d)) ds (lines_next state turn s (Some (places d)) (with_deadlocks ds))
  kind_explains s (places d) (with_divisions q ds) c h = goes (after_kind m state s (places d) (with_divisions q ds)) (lines_next state turn s (Some (places d)) (with_divisions q ds)) s _ _ refl c.active refl refl (λ w. refl)
  kind_explains s (writes number change placed) (with_put p) c h = goes (after_kind m state s (writes number change placed) (with_put p)) (lines_next state turn s (Some (writes number change placed)) (with_put p)) s _ _ refl c.active refl refl (λ w. refl)
  kind_explains s kind choice c h = absurd h

  next_explains : (s : ℕ) (kind : Option EventKind) (choice : Choice) → next m state s ≡ kind → MayGoOn state s kind choice
      → HaveLines (after_next m state s kind choice) (lines ++ lines_next state turn s kind choice)
  next_explains s None choice e h = absurd h
  next_explains s (Some kind) choice e h = kind_explains s kind choice (is_caused m state s kind e) h

  explains : (actor : Actor) (choice : Choice) → MayHappen m state actor choice → HaveLines (after m state actor choice) (lines ++ lines_of m state turn actor choice)
  explains (acts s) choice h = next_explains s (next m state s) choice refl h
  explains purges with_nothing h =
      kept (after m state purges with_nothing) (lines_of m state turn purges with_nothing) (λ k. same_explains (lines_of m state turn purges with_nothing) k (session_at state.sessions k))
  explains flushes (with_flushed n) h =
      kept state (lines_of m state turn flushes (with_flushed n)) (λ k. same_explains (lines_of m state turn flushes (with_flushed n)) k (session_at state.sessions k))
  explains lists_locks with_nothing h =
      kept state (lines_of m state turn lists_locks with_nothing) (λ k. same_explains (lines_of m state turn lists_locks with_nothing) k (session_at state.sessions k))
  explains actor choice h = absurd h

-- ---- all events

all_explain : (m : Machine) (first last : ℕ) (state : State) (events : List Event) (lines : List Line) → IsProper m → InOrder m state → HaveLines state lines → MayFollow m first last state events
    → HaveLines (after_all m state events) (lines ++ lines_of_all m state events) × InOrder m (after_all m state events)
all_explain m first last state [] lines good o have happen = (subst (HaveLines state) (sym (append-nil lines)) have, o)
all_explain m first last state (e ∷ events) lines good o have happen =
    let now : State = after m state e.actor e.choice in
    let rest = all_explain m e.turn last now events (lines ++ lines_of m state e.turn e.actor e.choice) good (order_kept m state e.actor e.choice good o happen.1)
    (explains m state e.turn good o lines have e.actor e.choice happen.1) happen.2 in
    (subst (HaveLines (after_all m now events)) (append_assoc lines (lines_of m state e.turn e.actor e.choice) (lines_of_all m now events)) rest.0, rest.1)

-- ---- the answer

module _ (m : Machine) (state : State) (turn : ℕ) (good : IsProper m) (o : InOrder m state) (lines : List Line) (have : HaveLines state lines) (s : ℕ) where
  own_apart : (r : Reply) (number : ℕ) → IsOwn r → is_full (answer_to turn s number r) ≡ true → ⊥
  own_apart r number own h = false≢true (sym (own_not_full turn s number r own) ∙ h)

  reply_own : (st : Statement) (read : List (ℤ × Option Row)) (done : List Change) → IsOwn (reply_of st read done)
  reply_own (Select name columns w) read done = tt
  reply_own (Create name schema) read done = tt
  reply_own (Insert name rows) read done = tt
  reply_own (Update name sets w) read done = tt
  reply_own (Delete name w) read done = tt
  reply_own Begin read done = tt
  reply_own Commit read done = tt
  reply_own Rollback read done = tt
  reply_own (Refused refusal) read done = tt

  by_reply : (r : Reply) (ends : Bool) → Replies m state s (session_at state.sessions s) r ends → is_full (answer_to turn s (session_at state.sessions s).number r) ≡ true
      → IsFoundFull lines s (session_at state.sessions s).number
  by_reply r ends (inl v) h =
      absurd (false≢true (sym (deadlock_not_full turn s (session_at state.sessions s).number) ∙ ap (λ x. is_full (answer_to turn s (session_at state.sessions s).number x)) (sym v.reply_is) ∙ h))
  by_reply r ends (inr (inl e)) h =
      absurd (false≢true (sym (end_not_full turn s (session_at state.sessions s).number) ∙ ap (λ x. is_full (answer_to turn s (session_at state.sessions s).number x)) (sym e.reply_is) ∙ h))
  by_reply r ends (inr (inr (inl f))) h = absurd (by_statement f.statement f.first f.answers)
    where
      apart : (x : Reply) → r ≡ x → IsOwn x → ⊥
      apart x is own = own_apart x (session_at state.sessions s).number own (ap (λ y. is_full (answer_to turn s (session_at state.sessions s).number y)) (sym is) ∙ h)

      by_statement : (st : Statement) → IsAtFirst m state s (session_at state.sessions s) st → AnswersFirst (session_at state.sessions s) st r ends → ⊥
      by_statement (Refused refusal) first k =
          apart (says.Err refusal) k.0
          (subst (λ st. MayMean (m.language.effect first.text) st) first.means (good.faithful.meant (committed state) (place_at s (session_at state.sessions s).inside) first.text))
      by_statement Begin first k = apart says.Ok k.0 tt
      by_statement Commit first k = apart says.Ok k.0 tt
      by_statement Rollback first k = apart says.Ok k.0 tt
      by_statement (Create name schema) first k = k
      by_statement (Insert name rows) first k = k
      by_statement (Select name columns w) first k = k
      by_statement (Update name sets w) first k = k
      by_statement (Delete name w) first k = k
  by_reply r ends (inr (inr (inr (inl f)))) h = by_failure f.failure f.failed f.reply_is
    where
      apart : (x : Reply) → r ≡ x → IsOwn x → ⊥
      apart x is own = own_apart x (session_at state.sessions s).number own (ap (λ y. is_full (answer_to turn s (session_at state.sessions s).number y)) (sym is) ∙ h)

      by_failure : (failure : Failure) → f.work.failure ≡ Some failure → r ≡ failure_reply failure → IsFoundFull lines s (session_at state.sessions s).number
      by_failure (duplicate key) failed is = absurd (apart (failure_reply (duplicate key)) is refl)
      by_failure too_large failed is = absurd (apart (failure_reply too_large) is refl)
      by_failure file_full failed is = have s f.work f.at_work failed
  by_reply r ends (inr (inr (inr (inr d)))) h =
      absurd (own_apart (reply_of d.work.statement d.work.read d.done) (session_at state.sessions s).number (reply_own d.work.statement d.work.read d.done)
      (ap (λ y. is_full (answer_to turn s (session_at state.sessions s).number y)) (sym d.reply_is) ∙ h))

  only : (x a : Answer) → Has (x ∷ []) a → x ≡ a
  only x a (inl is) = is
  only x a (inr f) = absurd f

  none_here : (ds : List Deadlock) (whose : Whose) (a : Answer) → Has (answers_in (deadlock_lines turn whose ds)) a → ⊥
  none_here [] whose a h = h
  none_here (d ∷ ds) whose a h = none_here ds whose a h

  kind_full : (kind : EventKind) (choice : Choice) → next m state s ≡ Some kind → IsCaused m state s kind → Reason m state s (session_at state.sessions s) kind → MayChoose state s kind choice
      → (a : Answer) → Has (answers_in (lines_next state turn s (Some kind) choice)) a → is_full a ≡ true → IsFoundFull lines s a.number ⊎ IsWithoutRoom m state s
  kind_full (answers r true) with_nothing e c why h a has full =
      let is = only (answer_to turn s (session_at state.sessions s).number r) a has in
      inl (subst (λ (x : Answer). IsFoundFull lines s x.number) is (by_reply r true why (ap is_full is ∙ full)))
  kind_full (answers r false) with_nothing e c why h a has full =
      let is = only (answer_to turn s (session_at state.sessions s).number r) a has in
      inl (subst (λ (x : Answer). IsFoundFull lines s x.number) is (by_reply r false why (ap is_full is ∙ full)))
  kind_full (undoes entry) (with_undo_pages more) e c why h a has full = absurd has
  kind_full (creates name schema) with_nothing e c why h a has full = inr (record { name = name; schema = schema; create = e; no_room = h })
  kind_full (creates name schema) (with_roots leaf roots) e c why h a has full =
      let is = only (answer_to turn s (session_at state.sessions s).number says.Ok) a has in
      absurd (own_apart says.Ok (session_at state.sessions s).number tt (ap is_full is ∙ full))
  kind_full (asks_table statement number mode) with_nothing e c why h a has full = absurd has
  kind_full (asks_table statement number mode) (with_blockers by ds) e c why h a has full = absurd (none_here ds (whose_of state s) a has)
  kind_full (asks_key number key mode) with_nothing e c why h a has full = absurd has
  kind_full (asks_key number key mode) (with_blockers by ds) e c why h a has full = absurd (none_here ds (whose_of state s) a has)
  kind_full (visits number column predicate) with_nothing e c why h a has full = absurd has
  kind_full (scans number leaf) with_nothing e c why h a has full = absurd has
  kind_full (steps d) (with_child q) e c why h a has full = absurd has
  kind_full (goes_stale d) with_nothing e c why h a has full = absurd has
  kind_full finds_full with_nothing e c why h a has full = absurd has
  kind_full (places d) (with_deadlocks ds) e c why h a has full = absurd (none_here ds (whose_of state s) a has)
  kind_full (places d) (with_divisions q ds) e c why h a has full = absurd has
  kind_full (writes number change placed) (with_put p) e c why h a has full = absurd has
  kind_full kind choice e c why h a has full = absurd h

  next_full : (kind : Option EventKind) (choice : Choice) → next m state s ≡ kind → MayGoOn state s kind choice
      → (a : Answer) → Has (answers_in (lines_next state turn s kind choice)) a → is_full a ≡ true → IsFoundFull lines s a.number ⊎ IsWithoutRoom m state s
  next_full None choice e h a has full = absurd h
  next_full (Some kind) choice e h a has full = kind_full kind choice e (is_caused m state s kind e) (has_reason m state s kind e) h a has full

nothing_failed : (m : Machine) (state : State) → IsRested m state → HaveLines state []
nothing_failed m state r s work at failed = absurd (none_some work (sym (ap (λ (x : SessionState). x.work) (r.fresh s)) ∙ at))

pub full_is_caused : FullIsCaused
full_is_caused m first last before at earlier good rested events s turn choice may a has full =
    let all = all_explain m first last before events.events [] good (in_order m before rested) (nothing_failed m before rested) events.happen in
    let have : HaveLines at earlier =
    subst (λ ls. HaveLines at ls) events.told (subst (λ st. HaveLines st (lines_of_all m before events.events)) events.ends all.0) in
    let o : InOrder m at = subst (InOrder m) events.ends all.1 in
    next_full m at turn good o earlier have s (next m at s) choice refl may a has full
