-- What comes next, read backwards, for answers and undoing.
use Rattle.std.proofs.Common.{◌≡◌, ◌∙◌, inl, inr, refl, sym, ap, subst, ℕ, ℤ, ◌==◌, ◌&&◌, ◌||◌, Bool, true, false, not, List, [], ◌∷◌, Option, Some, None, drop, eqb-true}
use Rattle.std.specs.Prelude.{if◌then◌else◌}
use Rattle.std.specs.List.{last_or}
use Rattle.std.specs.Option.{option_map}
use Rattle.std.proofs.lemmas.Bool.{false≢true}
use Rattle.isp_plain.specs.declared.statement.Reply.{Reply}
use Rattle.isp_plain.specs.declared.statement.Reply.TheVariants as reply
use Rattle.isp_plain.specs.declared.statement.Statement.{Statement}
use Rattle.isp_plain.specs.declared.statement.Statement.TheVariants.{Create, Insert, Select, Update, Delete, Begin, Commit, Rollback, Refused}
use Rattle.isp_serial.specs.Script.{text_at}
use Rattle.isp_serial.specs.Serial.{place_at}
use Rattle.isp_events.specs.Stored.{Leaf, leaf_after, table_at, tree_of}
use Rattle.isp_events.specs.Sessions.{Change, Entering, Failure, Phase, locking, visiting, scanning, writing, answering, Progress, unlocked, entering, SessionState, session_at, UndoEntry, Work}
use Rattle.isp_events.specs.State.{State, has_room, has_room_in, is_empty, is_waiting}
use Rattle.isp_events.specs.Views.{committed}
use Rattle.isp_events.specs.Ways.{Machine, Way, by_key, by_box, by_scan}
use Rattle.isp_events.specs.Next.{Descent, EventKind, answers, undoes, creates, asks_key, visits, scans, steps, goes_stale, finds_full, places, writes, deadlock_reply, descent_of, failure_reply, first_of, is_still, key_mode, next, next_of_change, next_of_columns, next_of_entry, next_of_phase, next_of_session, next_of_statement, next_of_text, next_of_unfailed, path_stands, reply_of, undo_first, undo_or, visit_by}
use Rattle.isp_causes.specs.Causes.{GoesOn, IsAtFirst}
use Rattle.isp_replies.specs.Replies.{NextHasReason, Reason, Replies, RepliesDone, RepliesEnd, RepliesFailed, RepliesFirst, RepliesVictim, RollsBack}

same : {X : Type 0} (x y : X) → Some x ≡ Some y → x ≡ y
same x y h = cc

none_is : {X : Type 0} (y : X) → None ≡ Some y → ⊥
none_is y h = cc

last_there : {X : Type 0} (o : Option X) (x : X) (xs : List X) → last_or (Some x) xs ≡ None → ⊥
last_there o x [] h = none_is x (sym h)
last_there o x (y ∷ xs) h = last_there o y xs h

-- a list without a last is empty
pub empty_of_last : {X : Type 0} (xs : List X) → last_or None xs ≡ None → xs ≡ []
empty_of_last [] h = refl
empty_of_last (x ∷ xs) h = absurd (last_there None x xs h)

module _ (m : Machine) (state : State) (s : ℕ) (session : SessionState) where
  to : (kind other : EventKind) → Reason m state s session kind → Some kind ≡ Some other → Reason m state s session other
  to kind other c h = subst (Reason m state s session) (same kind other h) c

  -- the newest undo entry, or what follows where there is none
  undoing : (undo : List UndoEntry) (o : Option UndoEntry) (rest kind : EventKind) → last_or None undo ≡ o → RollsBack m state s session
      → (undo ≡ [] → Reason m state s session rest) → Some (undo_or o rest) ≡ Some kind → Reason m state s session kind
  undoing undo None rest kind e rolls c h = to rest kind (c (empty_of_last undo e)) h
  undoing undo (Some entry) rest kind e rolls c h = to (undoes entry) kind rolls h

  -- ---- kinds without a reason

  entry_reason : (d : Descent) (at_leaf : Bool) → Reason m state s session (next_of_entry state d at_leaf)
  entry_reason d at_leaf =
      by_tests (is_empty d.path || not at_leaf) (not (path_stands (tree_of (table_at state.tables d.table) d.column) d.path)) (not (has_room_in state (tree_of (table_at state.tables d.table) d.column)))
    where
      by_tests : (a b c : Bool) → Reason m state s session (if a then steps d else if b then goes_stale d else if c then finds_full else places d)
      by_tests true b c = tt
      by_tests false true c = tt
      by_tests false false true = tt
      by_tests false false false = tt

  columns_reason : (table : ℕ) (change : Change) (e : Entering) (columns : List ℕ) → Reason m state s session (next_of_columns state table change e columns)
  columns_reason table change e [] = by_room (has_room state)
    where
      by_room : (b : Bool) → Reason m state s session (if b then writes table change e.placed else finds_full)
      by_room true = tt
      by_room false = tt
  columns_reason table change e (column ∷ columns) = entry_reason (descent_of table change column e.path) e.at_leaf

  change_reason : (table : ℕ) (change : Change) (progress : Progress) → Reason m state s session (next_of_change state table change progress)
  change_reason table change unlocked = tt
  change_reason table change (entering e) = columns_reason table change e e.columns

  -- ---- work

  from_way : (table : ℕ) (way : Way) (kind : EventKind) → visit_by table way ≡ Some kind → Reason m state s session kind
  from_way table (by_key key) kind h = absurd (none_is kind h)
  from_way table (by_box column predicate) kind h = to (visits table column predicate) kind tt h
  from_way table by_scan kind h = absurd (none_is kind h)

  from_leaf : (table : ℕ) (leaf : Option Leaf) (kind : EventKind) → option_map (scans table) leaf ≡ Some kind → Reason m state s session kind
  from_leaf table None kind h = absurd (none_is kind h)
  from_leaf table (Some leaf) kind h = to (scans table leaf) kind tt h

  from_phase : (work : Work) (go : GoesOn session work) (phase : Phase) (kind : EventKind) → work.phase ≡ phase → next_of_phase state m.ways session work phase ≡ Some kind → Reason m state s session kind
  from_phase work go (locking []) kind is h = absurd (none_is kind h)
  from_phase work go (locking (key ∷ keys)) kind is h = to (asks_key work.table key (key_mode work.statement)) kind tt h
  from_phase work go visiting kind is h = from_way work.table (m.ways (table_at state.tables work.table).schema work.statement) kind h
  from_phase work go (scanning last) kind is h = from_leaf work.table (leaf_after (table_at state.tables work.table).leaves last) kind h
  from_phase work go (writing done [] progress) kind is h = absurd (none_is kind h)
  from_phase work go (writing done (change ∷ left) progress) kind is h =
      to (next_of_change state work.table change progress) kind (change_reason work.table change progress) h
  from_phase work go (answering done) kind is h =
      to (answers (reply_of work.statement work.read done) (not session.inside)) kind
      (inr (inr (inr (inr (record { work = work; goes_on = go; done = done; phase = is; reply_is = refl; ends_is = refl }))))) h

  from_work : (work : Work) (failure : Option Failure) (kind : EventKind) → session.victim ≡ false → session.work ≡ Some work → work.failure ≡ failure
      → next_of_unfailed state m.ways session work failure ≡ Some kind → Reason m state s session kind
  from_work work (Some failure) kind undisturbed at_work failed h =
      undoing (drop work.begun session.undo) (last_or None (drop work.begun session.undo)) (answers (failure_reply failure) (not session.inside)) kind refl
      (λ none not_victim. absurd (none_is work (sym none ∙ at_work)))
      (λ undone. inr (inr (inr (inl (record {
        undisturbed = undisturbed;
        work = work;
        at_work = at_work;
        failure = failure;
        failed = failed;
        undone = undone;
        reply_is = refl;
        ends_is = refl;
      }))))) h
  from_work work None kind undisturbed at_work failed h =
      from_phase work (record { undisturbed = undisturbed; at_work = at_work; unfailed = failed }) work.phase kind refl h

  -- ---- the beginning of a statement

  from_first : (statement : Statement) (kind : EventKind) → IsAtFirst m state s session statement
      → first_of state m.ways s session statement ≡ Some kind → Reason m state s session kind
  from_first (Refused refusal) kind first h =
      to (answers (reply.Err refusal) (not session.inside)) kind (inr (inr (inl (record { statement = Refused refusal; first = first; answers = (refl, refl) })))) h
  from_first Begin kind first h = to (answers reply.Ok false) kind (inr (inr (inl (record { statement = Begin; first = first; answers = (refl, refl) })))) h
  from_first Commit kind first h = to (answers reply.Ok true) kind (inr (inr (inl (record { statement = Commit; first = first; answers = (refl, refl) })))) h
  from_first Rollback kind first h =
      undoing session.undo (last_or None session.undo) (answers reply.Ok true) kind refl (λ none undisturbed. inr first)
      (λ undone. inr (inr (inl (record { statement = Rollback; first = first; answers = (refl, refl, undone) })))) h
  from_first (Create name schema) kind first h = by_setup (s == 0) h
    where
      by_setup : (b : Bool) → (if b then Some (creates name schema) else None) ≡ Some kind → Reason m state s session kind
      by_setup true k = to (creates name schema) kind tt k
      by_setup false k = absurd (none_is kind k)
  from_first (Insert name rows) kind first h = to _ kind tt h
  from_first (Select name columns w) kind first h = to _ kind tt h
  from_first (Update name sets w) kind first h = to _ kind tt h
  from_first (Delete name w) kind first h = to _ kind tt h

  from_text : (text : List ℕ) (work : Option Work) (kind : EventKind) → session.victim ≡ false → text_at m.script s session.number ≡ Some text → session.work ≡ work
      → next_of_statement m state s session text work ≡ Some kind → Reason m state s session kind
  from_text text None kind undisturbed is no_work h =
      from_first (m.language.meaning (committed state) (place_at s session.inside) text) kind
      (record { undisturbed = undisturbed; no_work = no_work; text = text; text_is = is; means = refl }) h
  from_text text (Some work) kind undisturbed is at_work h = from_work work work.failure kind undisturbed at_work refl h

  from_script : (text : Option (List ℕ)) (kind : EventKind) → session.victim ≡ false → text_at m.script s session.number ≡ text
      → next_of_text m state s session text ≡ Some kind → Reason m state s session kind
  from_script None kind undisturbed is h = by_setup (s == 0) refl h
    where
      by_setup : (b : Bool) → (s == 0) ≡ b → (if b then None else Some (undo_first session.undo (answers reply.End true))) ≡ Some kind → Reason m state s session kind
      by_setup true e k = absurd (none_is kind k)
      by_setup false e k =
          undoing session.undo (last_or None session.undo) (answers reply.End true) kind refl (λ none not_victim. inl is)
          (λ undone. inr (inl (record { undisturbed = undisturbed; no_text = is; not_setup = e; undone = undone; reply_is = refl; ends_is = refl }))) k
  from_script (Some text) kind undisturbed is h = from_text text session.work kind undisturbed is refl h

  from_session : (kind : EventKind) → next_of_session m state s session ≡ Some kind → Reason m state s session kind
  from_session kind h = by_victim session.victim refl h
    where
      by_victim : (b : Bool) → session.victim ≡ b
          → (if b then Some (undo_first session.undo (answers deadlock_reply true)) else next_of_text m state s session (text_at m.script s session.number)) ≡ Some kind
          → Reason m state s session kind
      by_victim true e k =
          undoing session.undo (last_or None session.undo) (answers deadlock_reply true) kind refl (λ none undisturbed. absurd (false≢true (sym undisturbed ∙ e)))
          (λ undone. inl (record { victim = e; undone = undone; reply_is = refl; ends_is = refl })) k
      by_victim false e k = from_script (text_at m.script s session.number) kind e refl k

pub has_reason : NextHasReason
unfolding next
has_reason m state s kind h = by_still (is_still state s (session_at state.sessions s)) h
  where
    by_still : (b : Bool) → (if b then None else next_of_session m state s (session_at state.sessions s)) ≡ Some kind → Reason m state s (session_at state.sessions s) kind
    by_still true k = absurd (none_is kind k)
    by_still false k = from_session m state s (session_at state.sessions s) kind k
