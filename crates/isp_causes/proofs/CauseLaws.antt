-- What comes next, read backwards: case by case.
use Rattle.std.proofs.Common.{◌≡◌, ◌∙◌, inl, inr, refl, sym, ap, subst, ℕ, ℤ, zero, suc, ◌==◌, ◌&&◌, ◌||◌, Bool, true, false, not, List, [], ◌∷◌, Option, Some, None, drop, eqb-true}
use Rattle.std.specs.Prelude.{if◌then◌else◌}
use Rattle.std.specs.List.{last_or}
use Rattle.std.specs.Option.{option_map}
use Rattle.std.proofs.lemmas.Bool.{false≢true}
use Rattle.isp_waits.specs.Graphs.{waits_of}
use Rattle.isp_plain.specs.declared.statement.Reply.{Reply}
use Rattle.isp_plain.specs.declared.statement.Reply.TheVariants as reply
use Rattle.isp_plain.specs.declared.statement.Statement.{Statement}
use Rattle.isp_plain.specs.declared.statement.Statement.TheVariants.{Create, Insert, Select, Update, Delete, Begin, Commit, Rollback, Refused}
use Rattle.isp_plain.specs.declared.value.Row.{Row}
use Rattle.isp_serial.specs.Script.{text_at}
use Rattle.isp_serial.specs.Serial.{place_at}
use Rattle.isp_events.specs.Stored.{Leaf, leaf_after, table_at, tree_of}
use Rattle.isp_events.specs.Sessions.{Change, Entering, Failure, duplicate, too_large, file_full, Phase, locking, visiting, scanning, writing, answering, Progress, unlocked, entering, SessionState, session_at, UndoEntry, Work}
use Rattle.isp_events.specs.State.{State, has_room, has_room_in, is_empty, is_waiting}
use Rattle.isp_events.specs.Views.{committed}
use Rattle.isp_events.specs.Ways.{Machine, Way, by_key, by_box, by_scan}
use Rattle.isp_events.specs.Next.{Descent, EventKind, answers, undoes, creates, asks_key, visits, scans, steps, goes_stale, finds_full, places, writes, deadlock_reply, descent_of, failure_reply, first_of, is_still, key_mode, next, next_of_change, next_of_columns, next_of_entry, next_of_phase, next_of_session, next_of_statement, next_of_text, next_of_unfailed, path_stands, reply_of, undo_first, undo_or, visit_by}
use Rattle.isp_events.specs.Ending.{is_end_reply}
use Rattle.isp_order.specs.Searches.{is_visiting}
use Rattle.isp_event_laws.proofs.ListTests.{empty_is, not_is}
use Rattle.isp_causes.specs.Causes.{Cause, GoesOn, IsAnswering, IsAtFirst, IsCaused, IsDescending, IsEntering, HasStopped, is_under_way}

same : {X : Type 0} (x y : X) → Some x ≡ Some y → x ≡ y
same x y h = cc

none_is : {X : Type 0} (y : X) → None ≡ Some y → ⊥
none_is y h = cc

-- the last of a list without its first elements is the last of the list
last_some : {X : Type 0} (o : Option X) (xs : List X) (x : X) → last_or None xs ≡ Some x → last_or o xs ≡ Some x
last_some o [] x h = absurd (none_is x h)
last_some o (y ∷ xs) x h = h

last_dropped : {X : Type 0} (n : ℕ) (xs : List X) (x : X) → last_or None (drop n xs) ≡ Some x → last_or None xs ≡ Some x
last_dropped zero xs x h = h
last_dropped (suc n) [] x h = h
last_dropped (suc n) (y ∷ xs) x h = last_some (Some y) xs x (last_dropped n xs x h)

module _ (m : Machine) (state : State) (s : ℕ) (session : SessionState) where
  To : EventKind → Type 0
  To kind = Cause m state s session kind

  to : (kind other : EventKind) → Cause m state s session kind → Some kind ≡ Some other → Cause m state s session other
  to kind other c h = subst (Cause m state s session) (same kind other h) c

  -- ---- undoing, and what follows it

  answering_ends : (reply : Reply) → IsAnswering m state s session reply true
  answering_ends reply = record { not_end = λ e. absurd (false≢true (sym e)); stays = λ e. absurd (false≢true (sym e)); stopped = λ e. absurd (false≢true (sym e)) }

  -- an answer that ends the transaction where it isn't open
  answering_open : (reply : Reply) → is_end_reply reply ≡ false → ((work : Work) → session.work ≡ Some work → HasStopped work)
      → IsAnswering m state s session reply (not session.inside)
  answering_open reply not_end stopped = record { not_end = λ e. not_end; stays = λ e. inl (not_not session.inside e); stopped = λ e. stopped }
    where
      not_not : (b : Bool) → not b ≡ false → b ≡ true
      not_not true e = refl
      not_not false e = absurd (false≢true (sym e))

  -- without work, or a victim, all undo entries go
  undoing_all : (undo : Option UndoEntry) (rest kind : EventKind) → last_or None session.undo ≡ undo
      → ((work : Work) (text : List ℕ) → session.work ≡ Some work → session.victim ≡ false → text_at m.script s session.number ≡ Some text → ⊥)
      → Cause m state s session rest → Some (undo_or undo rest) ≡ Some kind → Cause m state s session kind
  undoing_all None rest kind e none c h = to rest kind c h
  undoing_all (Some entry) rest kind e none c h =
      to (undoes entry) kind (record { newest = e; own = λ work text at_work undisturbed is. absurd (none work text at_work undisturbed is) }) h

  undoing_own : (work : Work) (failure : Failure) (undo : Option UndoEntry) (rest kind : EventKind) → session.work ≡ Some work → work.failure ≡ Some failure
      → last_or None (drop work.begun session.undo) ≡ undo → Cause m state s session rest → Some (undo_or undo rest) ≡ Some kind → Cause m state s session kind
  undoing_own work failure None rest kind at_work failed e c h = to rest kind c h
  undoing_own work failure (Some entry) rest kind at_work failed e c h = to (undoes entry) kind (record {
    newest = last_dropped work.begun session.undo entry e;
    own = λ other text is undisturbed has. own_of other (same work other (sym at_work ∙ is));
  }) h
    where
      own_of : (other : Work) → work ≡ other → ((f : Failure) × (other.failure ≡ Some f)) × (last_or None (drop other.begun session.undo) ≡ Some entry)
      own_of other is = subst (λ (w : Work). ((f : Failure) × (w.failure ≡ Some f)) × (last_or None (drop w.begun session.undo) ≡ Some entry)) is ((failure, failed), e)

  -- ---- a statement behind its table lock

  module _ (work : Work) (go : GoesOn session work) where
    abbrev at_entry : (done : List Change) (change : Change) (left : List Change) (e : Entering) → work.phase ≡ writing done (change ∷ left) (entering e) → IsEntering session
    at_entry done change left e phase = record { work = work; goes_on = go; done = done; change = change; left = left; e = e; phase = phase }

    from_entry : (entering : IsEntering session) (column : ℕ) (columns : List ℕ) (kind : EventKind) → entering.e.columns ≡ column ∷ columns
        → Some (next_of_entry state (descent_of entering.work.table entering.change column entering.e.path) entering.e.at_leaf) ≡ Some kind → Cause m state s session kind
    from_entry en column columns kind is h =
        let d : Descent = descent_of en.work.table en.change column en.e.path in
        let tree = tree_of (table_at state.tables d.table) d.column in
        by_tests d (record { entering = en; column = column; columns = columns; next = is; descent = refl })
        (is_under_way en.e) (not (path_stands tree d.path)) (not (has_room_in state tree)) refl refl refl h
      where
        by_tests : (d : Descent) (descending : IsDescending session d) (a b c : Bool) → is_under_way descending.entering.e ≡ a
            → not (path_stands (tree_of (table_at state.tables d.table) d.column) d.path) ≡ b → not (has_room_in state (tree_of (table_at state.tables d.table) d.column)) ≡ c
            → Some (if a then steps d else if b then goes_stale d else if c then finds_full else places d) ≡ Some kind → Cause m state s session kind
        by_tests d descending true b c e f g k = to (steps d) kind (record { descending = descending; under_way = e }) k
        by_tests d descending false true c e f g k = to (goes_stale d) kind (record { descending = descending; complete = e; stale = not_is _ f }) k
        by_tests d descending false false true e f g k = to finds_full kind descending.entering k
        by_tests d descending false false false e f g k =
            to (places d) kind (record { descending = descending; complete = e; stands = is_not _ f; room = is_not _ g }) k
          where
            is_not : (b' : Bool) → not b' ≡ false → b' ≡ true
            is_not true i = refl
            is_not false i = absurd (false≢true (sym i))

    from_columns : (entering : IsEntering session) (columns : List ℕ) (kind : EventKind) → entering.e.columns ≡ columns
        → Some (next_of_columns state entering.work.table entering.change entering.e columns) ≡ Some kind → Cause m state s session kind
    from_columns en [] kind is h = by_room (has_room state) refl h
      where
        by_room : (b : Bool) → has_room state ≡ b → Some (if b then writes en.work.table en.change en.e.placed else finds_full) ≡ Some kind → Cause m state s session kind
        by_room true e k = to (writes en.work.table en.change en.e.placed) kind (record { entering = en; all_placed = is; number_is = refl; change_is = refl; placed_is = refl; room = e }) k
        by_room false e k = to finds_full kind en k
    from_columns en (column ∷ columns) kind is h = from_entry en column columns kind is h

    from_progress : (done : List Change) (change : Change) (left : List Change) (progress : Progress) (kind : EventKind) → work.phase ≡ writing done (change ∷ left) progress
        → Some (next_of_change state work.table change progress) ≡ Some kind → Cause m state s session kind
    from_progress done change left unlocked kind phase h =
        to (asks_key work.table change.key _) kind
        (inr (record { work = work; goes_on = go; done = done; change = change; left = left; phase = phase; number_is = refl; key_is = refl; mode_is = refl })) h
    from_progress done change left (entering e) kind phase h = from_columns (at_entry done change left e phase) e.columns kind refl h

    from_way : (way : Way) (kind : EventKind) → m.ways (table_at state.tables work.table).schema work.statement ≡ way → work.phase ≡ visiting
        → visit_by work.table way ≡ Some kind → Cause m state s session kind
    from_way (by_key key) kind is phase h = absurd (none_is kind h)
    from_way (by_box column predicate) kind is phase h =
        to (visits work.table column predicate) kind (record { work = work; goes_on = go; phase = phase; number_is = refl; way = is }) h
    from_way by_scan kind is phase h = absurd (none_is kind h)

    from_leaf : (last : Option ℕ) (leaf : Option Leaf) (kind : EventKind) → leaf_after (table_at state.tables work.table).leaves last ≡ leaf → work.phase ≡ scanning last
        → option_map (scans work.table) leaf ≡ Some kind → Cause m state s session kind
    from_leaf last None kind is phase h = absurd (none_is kind h)
    from_leaf last (Some leaf) kind is phase h =
        to (scans work.table leaf) kind (record { work = work; goes_on = go; last = last; phase = phase; number_is = refl; leaf_is = is }) h

    reply_not_end : (statement : Statement) (read : List (ℤ × Option Row)) (done : List Change) → is_end_reply (reply_of statement read done) ≡ false
    reply_not_end (Select name columns w) read done = refl
    reply_not_end (Create name schema) read done = refl
    reply_not_end (Insert name rows) read done = refl
    reply_not_end (Update name sets w) read done = refl
    reply_not_end (Delete name w) read done = refl
    reply_not_end Begin read done = refl
    reply_not_end Commit read done = refl
    reply_not_end Rollback read done = refl
    reply_not_end (Refused refusal) read done = refl

    from_phase : (phase : Phase) (kind : EventKind) → work.phase ≡ phase → next_of_phase state m.ways session work phase ≡ Some kind → Cause m state s session kind
    from_phase (locking []) kind is h = absurd (none_is kind h)
    from_phase (locking (key ∷ keys)) kind is h =
        to (asks_key work.table key (key_mode work.statement)) kind (inl (record { work = work; goes_on = go; keys = keys; phase = is; number_is = refl; mode_is = refl })) h
    from_phase visiting kind is h = from_way (m.ways (table_at state.tables work.table).schema work.statement) kind refl is h
    from_phase (scanning last) kind is h = from_leaf last (leaf_after (table_at state.tables work.table).leaves last) kind refl is h
    from_phase (writing done [] progress) kind is h = absurd (none_is kind h)
    from_phase (writing done (change ∷ left) progress) kind is h = from_progress done change left progress kind is h
    from_phase (answering done) kind is h =
        to (answers (reply_of work.statement work.read done) (not session.inside)) kind (answering_open _ (reply_not_end work.statement work.read done)
        (λ other at. inl (ap (λ (w : Work). is_visiting w.phase) (same other work (sym at ∙ go.at_work)) ∙ ap is_visiting is))) h

  failure_not_end : (failure : Failure) → is_end_reply (failure_reply failure) ≡ false
  failure_not_end (duplicate key) = refl
  failure_not_end too_large = refl
  failure_not_end file_full = refl

  from_work : (work : Work) (failure : Option Failure) (kind : EventKind) → session.victim ≡ false → session.work ≡ Some work → work.failure ≡ failure
      → next_of_unfailed state m.ways session work failure ≡ Some kind → Cause m state s session kind
  from_work work (Some failure) kind undisturbed at_work failed h =
      undoing_own work failure (last_or None (drop work.begun session.undo)) (answers (failure_reply failure) (not session.inside)) kind at_work failed refl
      (answering_open _ (failure_not_end failure)
      (λ other at. inr (failure, ap (λ (w : Work). w.failure) (same other work (sym at ∙ at_work)) ∙ failed))) h
  from_work work None kind undisturbed at_work failed h =
      from_phase work (record { undisturbed = undisturbed; at_work = at_work; unfailed = failed }) work.phase kind refl h

  -- ---- the beginning of a statement

  idle_work : session.work ≡ None → (work : Work) (text : List ℕ) → session.work ≡ Some work → session.victim ≡ false → text_at m.script s session.number ≡ Some text → ⊥
  idle_work none work text some undisturbed is = none_is work (sym none ∙ some)

  from_first : (statement : Statement) (kind : EventKind) → IsAtFirst m state s session statement
      → first_of state m.ways s session statement ≡ Some kind → Cause m state s session kind
  from_first (Refused refusal) kind first h = to (answers (reply.Err refusal) (not session.inside)) kind (answering_open _ refl (λ work at. absurd (none_is work (sym first.no_work ∙ at)))) h
  from_first Begin kind first h = to (answers reply.Ok false) kind (record { not_end = λ e. refl; stays = λ e. inr first; stopped = λ e work at. absurd (none_is work (sym first.no_work ∙ at)) }) h
  from_first Commit kind first h = to (answers reply.Ok true) kind (answering_ends reply.Ok) h
  from_first Rollback kind first h =
      undoing_all (last_or None session.undo) (answers reply.Ok true) kind refl (idle_work first.no_work) (answering_ends reply.Ok) h
  from_first (Create name schema) kind first h = by_setup (s == 0) refl h
    where
      by_setup : (b : Bool) → (s == 0) ≡ b → (if b then Some (creates name schema) else None) ≡ Some kind → Cause m state s session kind
      by_setup true e k = to (creates name schema) kind (record { first = first; setup = eqb-true s 0 e }) k
      by_setup false e k = absurd (none_is kind k)
  from_first (Insert name rows) kind first h = to _ kind (record { first = first; on_rows = refl; number_is = refl; mode_is = refl }) h
  from_first (Select name columns w) kind first h = to _ kind (record { first = first; on_rows = refl; number_is = refl; mode_is = refl }) h
  from_first (Update name sets w) kind first h = to _ kind (record { first = first; on_rows = refl; number_is = refl; mode_is = refl }) h
  from_first (Delete name w) kind first h = to _ kind (record { first = first; on_rows = refl; number_is = refl; mode_is = refl }) h

  from_text : (text : List ℕ) (work : Option Work) (kind : EventKind) → session.victim ≡ false → text_at m.script s session.number ≡ Some text → session.work ≡ work
      → next_of_statement m state s session text work ≡ Some kind → Cause m state s session kind
  from_text text None kind undisturbed is no_work h =
      from_first (m.language.meaning (committed state) (place_at s session.inside) text) kind
      (record { undisturbed = undisturbed; no_work = no_work; text = text; text_is = is; means = refl }) h
  from_text text (Some work) kind undisturbed is at_work h = from_work work work.failure kind undisturbed at_work refl h

  from_script : (text : Option (List ℕ)) (kind : EventKind) → session.victim ≡ false → text_at m.script s session.number ≡ text
      → next_of_text m state s session text ≡ Some kind → Cause m state s session kind
  from_script None kind undisturbed is h = by_setup (s == 0) h
    where
      by_setup : (b : Bool) → (if b then None else Some (undo_first session.undo (answers reply.End true))) ≡ Some kind → Cause m state s session kind
      by_setup true k = absurd (none_is kind k)
      by_setup false k = undoing_all (last_or None session.undo) (answers reply.End true) kind refl (λ work text at_work undisturbed' has. none_is text (sym is ∙ has)) (answering_ends reply.End) k
  from_script (Some text) kind undisturbed is h = from_text text session.work kind undisturbed is refl h

  from_session : (kind : EventKind) → next_of_session m state s session ≡ Some kind → Cause m state s session kind
  from_session kind h = by_victim session.victim refl h
    where
      by_victim : (b : Bool) → session.victim ≡ b
          → (if b then Some (undo_first session.undo (answers deadlock_reply true)) else next_of_text m state s session (text_at m.script s session.number)) ≡ Some kind
          → Cause m state s session kind
      by_victim true e k =
          undoing_all (last_or None session.undo) (answers deadlock_reply true) kind refl (λ work text at_work undisturbed has. false≢true (sym undisturbed ∙ e))
          (answering_ends deadlock_reply) k
      by_victim false e k = from_script (text_at m.script s session.number) kind e refl k

pub is_caused : (m : Machine) (state : State) (s : ℕ) (kind : EventKind) → next m state s ≡ Some kind → IsCaused m state s kind
unfolding next
is_caused m state s kind h = by_still (is_still state s (session_at state.sessions s)) refl h
  where
    by_still : (b : Bool) → is_still state s (session_at state.sessions s) ≡ b
        → (if b then None else next_of_session m state s (session_at state.sessions s)) ≡ Some kind → IsCaused m state s kind
    by_still true e k = absurd (none_is kind k)
    by_still false e k = by_parts (session_at state.sessions s).over (is_waiting state.waits s) (s == 0) (session_at state.sessions 0).over refl refl refl refl e
      where
        by_parts : (a b c d : Bool) → (session_at state.sessions s).over ≡ a → is_waiting state.waits s ≡ b → (s == 0) ≡ c → (session_at state.sessions 0).over ≡ d
            → (a || (b || (not c && not d))) ≡ false → IsCaused m state s kind
        by_parts true b c d over waits first setup f = absurd (false≢true (sym f))
        by_parts false true c d over waits first setup f = absurd (false≢true (sym f))
        by_parts false false c d over waits first setup f = record {
          active = record {
            not_over = over;
            awake = empty_is (waits_of state.waits s) (is_not (is_empty (waits_of state.waits s)) waits);
            behind_setup = λ other. setup_over c d (sym first ∙ other) setup f;
          };
          cause = from_session m state s (session_at state.sessions s) kind k;
        }
          where
            is_not : (b' : Bool) → not b' ≡ false → b' ≡ true
            is_not true i = refl
            is_not false i = absurd (false≢true (sym i))

            setup_over : (c' d' : Bool) → c' ≡ false → (session_at state.sessions 0).over ≡ d' → (not c' && not d') ≡ false → (session_at state.sessions 0).over ≡ true
            setup_over true d' i j l = absurd (false≢true (sym i))
            setup_over false true i j l = j
            setup_over false false i j l = absurd (false≢true (sym l))
