-- Why an answer comes next, case by case.
use Rattle.std.proofs.Common.{◌≡◌, refl, subst, ℕ, ◌==◌, ◌||◌, Bool, true, false, not, List, [], ◌∷◌, Option, Some, None, drop}
use Rattle.std.specs.Prelude.{if◌then◌else◌}
use Rattle.std.specs.List.{last_or}
use Rattle.std.specs.Option.{option_map}
use Rattle.isp_plain.specs.declared.statement.Reply.{Reply}
use Rattle.isp_plain.specs.declared.statement.Reply.TheVariants as reply
use Rattle.isp_plain.specs.declared.refusal.Refusal.{Refusal}
use Rattle.isp_plain.specs.declared.statement.Statement.{Statement}
use Rattle.isp_plain.specs.declared.statement.Statement.TheVariants.{Create, Insert, Select, Update, Delete, Begin, Commit, Rollback, Refused}
use Rattle.isp_serial.specs.Script.{text_at}
use Rattle.isp_serial.specs.Serial.{place_at}
use Rattle.isp_events.specs.Stored.{Leaf, leaf_after, table_at, tree_of}
use Rattle.isp_events.specs.Sessions.{Change, Entering, Failure, Phase, locking, visiting, scanning, writing, answering, Progress, unlocked, entering, SessionState, session_at, UndoEntry, Work}
use Rattle.isp_events.specs.State.{State, has_room, has_room_in, is_empty}
use Rattle.isp_events.specs.Views.{committed}
use Rattle.isp_events.specs.Ways.{Machine, Way, by_key, by_box, by_scan}
use Rattle.isp_events.specs.Next.{Descent, EventKind, answers, undoes, creates, asks_table, asks_key, visits, scans, steps, goes_stale, finds_full, places, writes, deadlock_reply, descent_of, failure_reply, first_of, is_still, next, next_of_change, next_of_columns, next_of_entry, next_of_phase, next_of_session, next_of_statement, next_of_text, next_of_unfailed, path_stands, reply_of, undo_first, undo_or, visit_by}
use Rattle.isp_causes.specs.Causes.{GoesOn, IsAtFirst}

same : {X : Type 0} (x y : X) → Some x ≡ Some y → x ≡ y
same x y h = cc

none_is : {X : Type 0} (y : X) → None ≡ Some y → ⊥
none_is y h = cc

-- what each answer that comes next has: a victim's; END; those of a refusal, BEGIN, COMMIT and ROLLBACK; that of a statement that failed,
-- and that of one that is done
pub record EachAnswer (m : Machine) (state : State) (s : ℕ) (session : SessionState) (P : Reply → Bool → Type 0) : Type 0 where
  pub victim : session.victim ≡ true → P deadlock_reply true
  pub last : session.victim ≡ false → text_at m.script s session.number ≡ None → (s == 0) ≡ false → P reply.End true
  pub refused : (refusal : Refusal) → IsAtFirst m state s session (Refused refusal) → P (reply.Err refusal) (not session.inside)
  pub begin : IsAtFirst m state s session Begin → P reply.Ok false
  pub commit : IsAtFirst m state s session Commit → P reply.Ok true
  pub rollback : IsAtFirst m state s session Rollback → P reply.Ok true
  pub failed : (work : Work) (failure : Failure) (text : List ℕ) → session.victim ≡ false → text_at m.script s session.number ≡ Some text → session.work ≡ Some work → work.failure ≡ Some failure
      → P (failure_reply failure) (not session.inside)
  pub done : (work : Work) (changes : List Change) (text : List ℕ) → GoesOn session work → text_at m.script s session.number ≡ Some text → work.phase ≡ answering changes
      → P (reply_of work.statement work.read changes) (not session.inside)

abbrev Of : (Reply → Bool → Type 0) → EventKind → Type 0
Of P (answers reply ends) = P reply ends
Of P kind = Unit {0}

module _ (m : Machine) (state : State) (s : ℕ) (session : SessionState) (P : Reply → Bool → Type 0) (each : EachAnswer m state s session P) where
  to : (kind other : EventKind) → Of P kind → Some kind ≡ Some other → Of P other
  to kind other c h = subst (Of P) (same kind other h) c

  of_undo : (undo : Option UndoEntry) (rest kind : EventKind) → Of P rest → Some (undo_or undo rest) ≡ Some kind → Of P kind
  of_undo None rest kind c h = to rest kind c h
  of_undo (Some entry) rest kind c h = to (undoes entry) kind tt h

  -- ---- kinds that answer nothing

  of_entry : (d : Descent) (at_leaf : Bool) → Of P (next_of_entry state d at_leaf)
  of_entry d at_leaf = by_tests (is_empty d.path || not at_leaf) (not (path_stands (tree_of (table_at state.tables d.table) d.column) d.path)) (not (has_room_in state (tree_of (table_at state.tables d.table) d.column)))
    where
      by_tests : (a b c : Bool) → Of P (if a then steps d else if b then goes_stale d else if c then finds_full else places d)
      by_tests true b c = tt
      by_tests false true c = tt
      by_tests false false true = tt
      by_tests false false false = tt

  of_columns : (table : ℕ) (change : Change) (e : Entering) (columns : List ℕ) → Of P (next_of_columns state table change e columns)
  of_columns table change e [] = by_room (has_room state)
    where
      by_room : (b : Bool) → Of P (if b then writes table change e.placed else finds_full)
      by_room true = tt
      by_room false = tt
  of_columns table change e (column ∷ columns) = of_entry (descent_of table change column e.path) e.at_leaf

  of_change : (table : ℕ) (change : Change) (progress : Progress) → Of P (next_of_change state table change progress)
  of_change table change unlocked = tt
  of_change table change (entering e) = of_columns table change e e.columns

  of_way : (table : ℕ) (way : Way) (kind : EventKind) → visit_by table way ≡ Some kind → Of P kind
  of_way table (by_key key) kind h = absurd (none_is kind h)
  of_way table (by_box column predicate) kind h = to (visits table column predicate) kind tt h
  of_way table by_scan kind h = absurd (none_is kind h)

  of_leaf : (table : ℕ) (leaf : Option Leaf) (kind : EventKind) → option_map (scans table) leaf ≡ Some kind → Of P kind
  of_leaf table None kind h = absurd (none_is kind h)
  of_leaf table (Some leaf) kind h = to (scans table leaf) kind tt h

  -- ---- a statement behind its table lock

  of_phase : (work : Work) (text : List ℕ) (go : GoesOn session work) → text_at m.script s session.number ≡ Some text → (phase : Phase) (kind : EventKind) → work.phase ≡ phase
      → next_of_phase state m.ways session work phase ≡ Some kind → Of P kind
  of_phase work text go is (locking []) kind e h = absurd (none_is kind h)
  of_phase work text go is (locking (key ∷ keys)) kind e h = to (asks_key work.table key _) kind tt h
  of_phase work text go is visiting kind e h = of_way work.table (m.ways (table_at state.tables work.table).schema work.statement) kind h
  of_phase work text go is (scanning last) kind e h = of_leaf work.table (leaf_after (table_at state.tables work.table).leaves last) kind h
  of_phase work text go is (writing done [] progress) kind e h = absurd (none_is kind h)
  of_phase work text go is (writing done (change ∷ left) progress) kind e h = to (next_of_change state work.table change progress) kind (of_change work.table change progress) h
  of_phase work text go is (answering done) kind e h = to (answers (reply_of work.statement work.read done) (not session.inside)) kind (each.done work done text go is e) h

  of_work : (work : Work) (text : List ℕ) (failure : Option Failure) (kind : EventKind) → session.victim ≡ false → text_at m.script s session.number ≡ Some text
      → session.work ≡ Some work → work.failure ≡ failure → next_of_unfailed state m.ways session work failure ≡ Some kind → Of P kind
  of_work work text (Some failure) kind undisturbed is at_work failed h =
      of_undo (last_or None (drop work.begun session.undo)) (answers (failure_reply failure) (not session.inside)) kind (each.failed work failure text undisturbed is at_work failed) h
  of_work work text None kind undisturbed is at_work failed h =
      of_phase work text (record { undisturbed = undisturbed; at_work = at_work; unfailed = failed }) is work.phase kind refl h

  -- ---- the beginning of a statement

  of_first : (statement : Statement) (kind : EventKind) → IsAtFirst m state s session statement → first_of state m.ways s session statement ≡ Some kind → Of P kind
  of_first (Refused refusal) kind first h = to (answers (reply.Err refusal) (not session.inside)) kind (each.refused refusal first) h
  of_first Begin kind first h = to (answers reply.Ok false) kind (each.begin first) h
  of_first Commit kind first h = to (answers reply.Ok true) kind (each.commit first) h
  of_first Rollback kind first h = of_undo (last_or None session.undo) (answers reply.Ok true) kind (each.rollback first) h
  of_first (Create name schema) kind first h = by_setup (s == 0) h
    where
      by_setup : (b : Bool) → (if b then Some (creates name schema) else None) ≡ Some kind → Of P kind
      by_setup true k = to (creates name schema) kind tt k
      by_setup false k = absurd (none_is kind k)
  of_first (Insert name rows) kind first h = to (asks_table _ _ _) kind tt h
  of_first (Select name columns w) kind first h = to (asks_table _ _ _) kind tt h
  of_first (Update name sets w) kind first h = to (asks_table _ _ _) kind tt h
  of_first (Delete name w) kind first h = to (asks_table _ _ _) kind tt h

  of_text : (text : List ℕ) (work : Option Work) (kind : EventKind) → session.victim ≡ false → text_at m.script s session.number ≡ Some text → session.work ≡ work
      → next_of_statement m state s session text work ≡ Some kind → Of P kind
  of_text text None kind undisturbed is no_work h =
      of_first (m.language.meaning (committed state) (place_at s session.inside) text) kind
      (record { undisturbed = undisturbed; no_work = no_work; text = text; text_is = is; means = refl }) h
  of_text text (Some work) kind undisturbed is at_work h = of_work work text work.failure kind undisturbed is at_work refl h

  of_script : (text : Option (List ℕ)) (kind : EventKind) → session.victim ≡ false → text_at m.script s session.number ≡ text
      → next_of_text m state s session text ≡ Some kind → Of P kind
  of_script None kind undisturbed is h = by_setup (s == 0) refl h
    where
      by_setup : (b : Bool) → (s == 0) ≡ b → (if b then None else Some (undo_first session.undo (answers reply.End true))) ≡ Some kind → Of P kind
      by_setup true e k = absurd (none_is kind k)
      by_setup false e k = of_undo (last_or None session.undo) (answers reply.End true) kind (each.last undisturbed is e) k
  of_script (Some text) kind undisturbed is h = of_text text session.work kind undisturbed is refl h

  of_session : (kind : EventKind) → next_of_session m state s session ≡ Some kind → Of P kind
  of_session kind h = by_victim session.victim refl h
    where
      by_victim : (b : Bool) → session.victim ≡ b
          → (if b then Some (undo_first session.undo (answers deadlock_reply true)) else next_of_text m state s session (text_at m.script s session.number)) ≡ Some kind
          → Of P kind
      by_victim true e k = of_undo (last_or None session.undo) (answers deadlock_reply true) kind (each.victim e) k
      by_victim false e k = of_script (text_at m.script s session.number) kind e refl k

-- an answer that comes next has it
pub answer_has : (m : Machine) (state : State) (s : ℕ) (P : Reply → Bool → Type 0) → EachAnswer m state s (session_at state.sessions s) P
    → (reply : Reply) (ends : Bool) → next m state s ≡ Some (answers reply ends) → P reply ends
unfolding next
answer_has m state s P each reply ends h = by_still (is_still state s (session_at state.sessions s)) h
  where
    by_still : (b : Bool) → (if b then None else next_of_session m state s (session_at state.sessions s)) ≡ Some (answers reply ends) → P reply ends
    by_still true k = absurd (none_is (answers reply ends) k)
    by_still false k = of_session m state s (session_at state.sessions s) P each (answers reply ends) k
