-- What every event keeps, from what each keeps: the events by their functions, each with what it is known of where it happens.
use Rattle.std.proofs.Common.{◌≡◌, ◌⊎◌, ◌∙◌, ◌<◌, inl, inr, refl, sym, ap, subst, ℕ, ℤ, ◌==◌, ◌&&◌, ◌||◌, not, cond, Bool, true, false, List, [], ◌∷◌, Option, Some, None, map, eqb-true}
use Rattle.std.specs.Prelude.{Contains, IsTrue, filter, nat_eq, if◌then◌else◌}
use Rattle.std.specs.Option.{option_and_then, option_map}
use Rattle.std.proofs.lemmas.Bool.{false≢true, and_parts, or_cases}
use Rattle.std.proofs.lemmas.List.Elements.{Contains-append_left, Contains-append_right, Contains-push}
use Rattle.isp_base.specs.Lists.{Has}
use Rattle.isp_laws.proofs.ListLaws.{Has-filter}
use Rattle.isp_mbr.specs.declared.predicate.Predicate.{Predicate}
use Rattle.isp_reclock.specs.declared.entries.Blocker.{Blocker}
use Rattle.isp_reclock.specs.declared.entries.Lock.{Lock}
use Rattle.isp_reclock.specs.declared.modes.Mode.{Mode}
use Rattle.isp_reclock.specs.declared.modes.Mode.TheVariants.{X}
use Rattle.isp_reclock.specs.Modes.{conflicts, modes}
use Rattle.isp_reclock.specs.Tables.{holds, key_lock, table_lock}
use Rattle.isp_reclock.specs.Blockers.{AreBlockers, blocker_of, first_conflict, lock_of}
use Rattle.isp_reclock.proofs.BlockerLemmas.{blocker_parts, find_passes}
use Rattle.isp_waits.specs.Graphs.{has}
use Rattle.isp_plain.specs.declared.statement.Reply.{Reply}
use Rattle.isp_plain.specs.declared.statement.Statement.{Statement}
use Rattle.isp_plain.specs.declared.statement.Statement.TheVariants.{Create, Insert, Select, Update, Delete, Begin, Commit, Rollback, Refused}
use Rattle.isp_plain.specs.declared.value.Schema.{Schema}
use Rattle.isp_serial.specs.Script.{text_at}
use Rattle.isp_serial.specs.Serial.{place_at}
use Rattle.isp_forest.specs.Place.{Division}
use Rattle.isp_events.specs.Stored.{Leaf, table_at}
use Rattle.isp_events.specs.Sessions.{Change, Entering, Phase, locking, writing, unlocked, entering, SessionState, session_at, UndoEntry, Work}
use Rattle.isp_events.specs.State.{State, TreeSearch, is_empty}
use Rattle.isp_events.specs.Views.{committed_row}
use Rattle.isp_events.specs.Ways.{Machine}
use Rattle.isp_events.specs.Lines.{On}
use Rattle.isp_events.specs.Next.{Descent, EventKind, answers, undoes, creates, asks_table, asks_key, visits, scans, steps, goes_stale, finds_full, places, writes, key_mode, next, table_mode}
use Rattle.isp_events.specs.Deadlocks.{Deadlock, MayWait, after_refusal}
use Rattle.isp_events.specs.Asking.{after_key_lock, after_table_lock}
use Rattle.isp_events.specs.Reading.{after_scan, after_visit}
use Rattle.isp_events.specs.Placing.{MayPlaceEntry, after_full, after_place, after_stale, after_step, in_the_way, may_step, sessions_on, tree_for}
use Rattle.isp_events.specs.Writing.{MayWriteRow, Put, after_row}
use Rattle.isp_events.specs.Ending.{MayCreate, after_answer, after_create, after_end, after_undo, is_over_after}
use Rattle.isp_events.specs.Purging.{after_purge}
use Rattle.isp_events.specs.Events.{Actor, acts, purges, flushes, lists_locks, Choice, with_nothing, with_blockers, with_deadlocks, with_child, with_divisions, with_put, with_undo_pages, with_roots, with_flushed, MayChoose, MayGoOn, MayHappen, after, after_kind, after_next, blockers_of, full_reply}
use Rattle.isp_event_laws.specs.EventLaws.{NamesSearches}
use Rattle.isp_event_laws.proofs.PlacingLaws.{names_searches}
use Rattle.isp_order.specs.Locks.{Demand, for_entry, for_lock, StandsInTheWay, demand_at_first, demand_of, demand_of_columns, demand_of_phase, demand_of_statement, demand_on_table, demand_unfailed, without_rows}
use Rattle.isp_order.specs.Work.{IsBound, table_name}
use Rattle.isp_order.specs.InOrder.{InOrder, IsProper}
use Rattle.isp_order.proofs.TableLaws.{definitions_seen}
use Rattle.isp_causes.specs.Causes.{GoesOn, IsActive, IsAnswering, IsAtFirst, IsCaused, IsCreating, IsEntering, IsLockingKey, IsLockingRow, IsLockingTable, IsPlacing, IsScanning, IsStale, IsStepping, IsUndoing, IsVisiting, IsWritingRow, is_on_rows}
use Rattle.isp_causes.proofs.CauseLaws.{is_caused}

-- the session asks for something, and each of these stands in the way of it
pub record IsRefused (m : Machine) (state : State) (s : ℕ) (on : List ℕ) : Type 0 where
  pub demand : Demand
  pub asks : demand_of m state.tables s (session_at state.sessions s) ≡ Some demand
  pub others : (by : ℕ) → IsTrue (has on by) → (by == s) ≡ false
  pub stand : (by : ℕ) → IsTrue (has on by) → StandsInTheWay state.locks state.searches by demand

-- what each event leads to has the property
pub record EachKeeps (m : Machine) (state : State) (P : State → Type 0) : Type 0 where
  pub still : P state
  pub purge : (is_empty state.queue ≡ false) → P (after_purge state)
  pub end : (s : ℕ) (over : Bool) → IsActive state s → P (after_end state s over)
  pub answer : (s : ℕ) (reply : Reply) → IsActive state s → IsAnswering m state s (session_at state.sessions s) reply false
      → P (after_answer state s (is_over_after m s (session_at state.sessions s).number reply))
  pub undo : (s : ℕ) (entry : UndoEntry) (more : ℕ) → IsActive state s → IsUndoing m s (session_at state.sessions s) entry → P (after_undo state s entry more)
  pub create : (s : ℕ) (over : Bool) (name : List ℕ) (schema : Schema) (leaf : ℕ) (roots : List ℕ) → IsActive state s
      → IsCreating m state s (session_at state.sessions s) name schema → MayCreate state schema leaf roots → P (after_create state s over name schema leaf roots)
  pub refuse : (s : ℕ) (on : List ℕ) (ds : List Deadlock) → IsActive state s → IsRefused m state s on → MayWait state s on ds → P (after_refusal state s on ds)
  pub lock_table : (s : ℕ) (statement : Statement) (number : ℕ) (mode : Mode) → IsActive state s
      → IsLockingTable m state s (session_at state.sessions s) statement number mode → AreBlockers state.locks (table_lock s number mode) []
      → P (after_table_lock state m.ways s statement number mode)
  pub lock_key : (s number : ℕ) (key : ℤ) (mode : Mode) → IsActive state s
      → IsLockingKey (session_at state.sessions s) number key mode → AreBlockers state.locks (key_lock s number key mode) [] → P (after_key_lock state s number key mode)
  pub lock_row : (s number : ℕ) (key : ℤ) (mode : Mode) → IsActive state s
      → IsLockingRow (session_at state.sessions s) number key mode → AreBlockers state.locks (key_lock s number key mode) [] → P (after_key_lock state s number key mode)
  pub visit : (s number column : ℕ) (predicate : Predicate) → IsActive state s → IsVisiting m state (session_at state.sessions s) number column predicate
      → P (after_visit state s number column predicate)
  pub scan : (s number : ℕ) (leaf : Leaf) → IsActive state s → IsScanning state (session_at state.sessions s) number leaf → P (after_scan state s number leaf)
  pub step : (s : ℕ) (d : Descent) (q : ℕ) → IsActive state s → IsStepping (session_at state.sessions s) d → may_step (tree_for state d) d.path q ≡ true → P (after_step state s d q)
  pub stale : (s : ℕ) (d : Descent) → IsActive state s → IsStale state (session_at state.sessions s) d → P (after_stale state s)
  pub full : (s : ℕ) → IsActive state s → IsEntering (session_at state.sessions s) → P (after_full state s)
  pub place : (s : ℕ) (d : Descent) (q : ℕ) (ds : List Division) → IsActive state s → IsPlacing state (session_at state.sessions s) d → MayPlaceEntry state s d q ds
      → P (after_place state s d q ds)
  pub row : (s number : ℕ) (change : Change) (placed : List (ℕ × ℕ)) (p : Put) → IsActive state s → IsWritingRow state (session_at state.sessions s) number change placed
      → MayWriteRow state number change placed p → P (after_row state s number change placed p)

-- ---- who is refused

-- the one in the way of a lock holds a mode that conflicts, and isn't the asker
pub blocker_stands : (locks : List Lock) (asked : Lock) (b : Blocker) → blocker_of locks asked b.trx ≡ Some b
    → ((b.trx == asked.trx) ≡ false) × ((conflicts b.held asked.held.mode ≡ true) × (holds locks (lock_of b.trx asked b.held) ≡ true))
blocker_stands locks asked b h = by_test (b.trx == asked.trx) refl h
  where
    by_test : (t : Bool) → (b.trx == asked.trx) ≡ t
        → (if t then None else option_map (λ mode. record { trx = b.trx; held = mode }) (first_conflict locks asked b.trx)) ≡ Some b
        → ((b.trx == asked.trx) ≡ false) × ((conflicts b.held asked.held.mode ≡ true) × (holds locks (lock_of b.trx asked b.held) ≡ true))
    by_test true e k = let no : None ≡ Some b = k in let f : ⊥ = cc in absurd f
    by_test false e k =
        let parts = blocker_parts false (first_conflict locks asked b.trx) b.trx b k in
        let passes = find_passes (λ mode. conflicts mode asked.held.mode && holds locks (lock_of b.trx asked mode)) modes b.held parts.1 in
        let both = and_parts (conflicts b.held asked.held.mode) (holds locks (lock_of b.trx asked b.held)) passes in
        (e, both)

-- a session among those named by a list has an element there
among : {Y : Type 0} (f : Y → ℕ) (xs : List Y) (by : ℕ) → IsTrue (has (map f xs) by) → (y : Y) × (Contains xs y) × (f y ≡ by)
among f [] by h = absurd (false≢true h)
among f (y ∷ xs) by h = elim (or_cases (nat_eq by (f y)) (has (map f xs) by) h) [
  | inl e ↦ (y, Contains-append_left (y ∷ []) xs y (Contains-push [] y), sym (eqb-true by (f y) e))
  | inr k ↦ (let r = among f xs by k in (r.0, Contains-append_right (y ∷ []) xs r.0 r.1, r.2))
]

has_among : {Y : Type 0} (f : Y → ℕ) (xs : List Y) (by : ℕ) → IsTrue (has (map f xs) by) → (y : Y) × (Has xs y) × (f y ≡ by)
has_among f [] by h = absurd (false≢true h)
has_among f (y ∷ xs) by h = elim (or_cases (nat_eq by (f y)) (has (map f xs) by) h) [
  | inl e ↦ (y, inl refl, sym (eqb-true by (f y) e))
  | inr k ↦ (let r = has_among f xs by k in (r.0, inr r.1, r.2))
]

module _ (m : Machine) (state : State) (good : IsProper m) (o : InOrder m state) where
  -- a text means on the tables without their rows what it means on those committed
  pub means_without_rows : (s : ℕ) (statement : Statement) (session : SessionState) (first : IsAtFirst m state s session statement)
      → m.language.meaning (without_rows state.tables) (place_at s session.inside) first.text ≡ statement
  means_without_rows s statement session first =
      good.servable.defined (without_rows state.tables) _ (place_at s session.inside) first.text
      (definitions_seen (λ number key. None) state.tables ∙ sym (definitions_seen (committed_row state) state.tables))
      ∙ first.means

  on_rows_asks : (s : ℕ) (statement : Statement) → is_on_rows statement ≡ true
      → demand_at_first m.ways state.tables s statement ≡ demand_on_table m.ways state.tables s statement (table_name statement)
  on_rows_asks s (Insert name rows) h = refl
  on_rows_asks s (Select name columns w) h = refl
  on_rows_asks s (Update name sets w) h = refl
  on_rows_asks s (Delete name w) h = refl
  on_rows_asks s (Create name schema) h = absurd (false≢true h)
  on_rows_asks s Begin h = absurd (false≢true h)
  on_rows_asks s Commit h = absurd (false≢true h)
  on_rows_asks s Rollback h = absurd (false≢true h)
  on_rows_asks s (Refused refusal) h = absurd (false≢true h)

  demand_of_text : (s : ℕ) (session : SessionState) (text : List ℕ) (work : Option Work) → session.victim ≡ false → text_at m.script s session.number ≡ Some text → session.work ≡ work
      → demand_of m state.tables s session ≡ demand_of_statement m state.tables s session text work
  demand_of_text s session text work undisturbed is at_work =
      ap (λ b. cond b None (option_and_then (λ t. demand_of_statement m state.tables s session t session.work) (text_at m.script s session.number))) undisturbed
      ∙ ap (option_and_then (λ t. demand_of_statement m state.tables s session t session.work)) is
      ∙ ap (λ w. demand_of_statement m state.tables s session text w) at_work

  pub asks_for_table : (s : ℕ) (statement : Statement) (number : ℕ) (mode : Mode) → IsLockingTable m state s (session_at state.sessions s) statement number mode
      → demand_of m state.tables s (session_at state.sessions s) ≡ Some (for_lock (table_lock s number mode))
  asks_for_table s statement number mode at =
      let session : SessionState = session_at state.sessions s in
      demand_of_text s session at.first.text None at.first.undisturbed at.first.text_is at.first.no_work
      ∙ ap (demand_at_first m.ways state.tables s) (means_without_rows s statement session at.first)
      ∙ on_rows_asks s statement at.on_rows
      ∙ ap (λ n. Some (for_lock (table_lock s n (table_mode statement (m.ways (table_at state.tables n).schema statement))))) (sym at.number_is)
      ∙ ap (λ x. Some (for_lock (table_lock s number x))) (sym at.mode_is)

  pub asks_at_work : (s : ℕ) (work : Work) (phase : Phase) → GoesOn (session_at state.sessions s) work → work.phase ≡ phase
      → demand_of m state.tables s (session_at state.sessions s) ≡ demand_of_phase s work phase
  asks_at_work s work phase go is =
      let session : SessionState = session_at state.sessions s in
      let bound : IsBound m state.tables s session work = o.bound s work go.at_work in
      demand_of_text s session bound.text (Some work) go.undisturbed bound.text_is go.at_work
      ∙ ap (λ f. demand_unfailed f (demand_of_phase s work work.phase)) go.unfailed
      ∙ ap (demand_of_phase s work) is

  asks_for_key : (s number : ℕ) (key : ℤ) (mode : Mode) → IsLockingKey (session_at state.sessions s) number key mode ⊎ IsLockingRow (session_at state.sessions s) number key mode
      → demand_of m state.tables s (session_at state.sessions s) ≡ Some (for_lock (key_lock s number key mode))
  asks_for_key s number key mode (inl at) =
      asks_at_work s at.work (locking (key ∷ at.keys)) at.goes_on at.phase
      ∙ ap (λ n. Some (for_lock (key_lock s n key (key_mode at.work.statement)))) (sym at.number_is)
      ∙ ap (λ x. Some (for_lock (key_lock s number key x))) (sym at.mode_is)
  asks_for_key s number key mode (inr at) =
      asks_at_work s at.work (writing at.done (at.change ∷ at.left) unlocked) at.goes_on at.phase
      ∙ ap (λ n. Some (for_lock (key_lock s n at.change.key X))) (sym at.number_is)
      ∙ ap (λ k. Some (for_lock (key_lock s number k X))) (sym at.key_is)
      ∙ ap (λ x. Some (for_lock (key_lock s number key x))) (sym at.mode_is)

  complete_path : (e : Entering) → (is_empty e.path || not e.at_leaf) ≡ false → (not (is_empty e.path) && e.at_leaf) ≡ true
  complete_path e h = by_tests (is_empty e.path) e.at_leaf h
    where
      by_tests : (a b : Bool) → (a || not b) ≡ false → (not a && b) ≡ true
      by_tests true b k = absurd (false≢true (sym k))
      by_tests false true k = refl
      by_tests false false k = absurd (false≢true (sym k))

  asks_for_entry : (s : ℕ) (d : Descent) → IsPlacing state (session_at state.sessions s) d
      → demand_of m state.tables s (session_at state.sessions s) ≡ Some (for_entry d.table d.column d.box)
  asks_for_entry s d at =
      let en = at.descending.entering in
      asks_at_work s en.work (writing en.done (en.change ∷ en.left) (entering en.e)) en.goes_on en.phase
      ∙ ap (λ b. cond b (demand_of_columns en.work.table en.change en.e.columns) None) (complete_path en.e at.complete)
      ∙ ap (demand_of_columns en.work.table en.change) at.descending.next
      ∙ ap (λ (x : Descent). Some (for_entry x.table x.column x.box)) (sym at.descending.descent)

  refused_lock : (s : ℕ) (asked : Lock) (by : List Blocker) → asked.trx ≡ s → demand_of m state.tables s (session_at state.sessions s) ≡ Some (for_lock asked)
      → AreBlockers state.locks asked by → IsRefused m state s (blockers_of by)
  refused_lock s asked by own asks are = record {
    demand = for_lock asked;
    asks = asks;
    others = λ b h. (let r = among (λ (x : Blocker). x.trx) by b h in
        ap (λ k. k == s) (sym r.2) ∙ ap (λ k. r.0.trx == k) (sym own) ∙ (blocker_stands state.locks asked r.0 ((are.exact r.0).0 r.1)).0);
    stand = λ b h. (let r = among (λ (x : Blocker). x.trx) by b h in
        let parts = blocker_stands state.locks asked r.0 ((are.exact r.0).0 r.1) in
        record { mode = r.0.held; held = subst (λ k. holds state.locks (lock_of k asked r.0.held) ≡ true) r.2 parts.1.1; conflict = parts.1.0 });
  }

  of_tree_parts : (x : TreeSearch) (table column : ℕ) → ((x.table == table) && (x.column == column)) ≡ true → (x.table ≡ table) × (x.column ≡ column)
  of_tree_parts x table column h =
      let parts = and_parts (x.table == table) (x.column == column) h in
      (eqb-true x.table table parts.0, eqb-true x.column column parts.1)

  filter_passes : {Y : Type 0} (test : Y → Bool) (xs : List Y) (x : Y) → Has (filter test xs) x → test x ≡ true
  filter_passes test [] x h = absurd h
  filter_passes test (y ∷ xs) x h = by_test (test y) refl (filter_passes test xs x) h
    where
      by_test : (b : Bool) → test y ≡ b → (Has (filter test xs) x → test x ≡ true) → Has (cond b (y ∷ filter test xs) (filter test xs)) x → test x ≡ true
      by_test true e again (inl k) = ap test (sym k) ∙ e
      by_test true e again (inr k) = again k
      by_test false e again k = again k

  pub all_numbered : (x : TreeSearch) → Has state.searches x → x.search.session < 17
  all_numbered x h = (o.belongs.each x h).numbered

  refused_entry : (s : ℕ) (d : Descent) → IsPlacing state (session_at state.sessions s) d → IsRefused m state s (sessions_on (in_the_way state s d))
  refused_entry s d at =
      let names : NamesSearches state s d = names_searches state s d all_numbered in
      record {
        demand = for_entry d.table d.column d.box;
        asks = asks_for_entry s d at;
        others = λ b h. (let r = has_among (λ (x : On). x.session) (in_the_way state s d) b h in
            let way = names.each r.0 r.1 in
            ap (λ k. k == s) (sym r.2 ∙ way.2) ∙ way.1.other);
        stand = λ b h. (let r = has_among (λ (x : On). x.session) (in_the_way state s d) b h in
            let way = names.each r.0 r.1 in
            let parts = of_tree_parts way.0 d.table d.column (filter_passes _ state.searches way.0 way.1.among) in
            record {
              search = way.0;
              among = Has-filter _ state.searches way.0 way.1.among;
              session = sym way.2 ∙ r.2;
              of_table = parts.0;
              of_column = parts.1;
              satisfied = way.1.satisfied;
            });
      }

  -- ---- each event

  module _ (P : State → Type 0) (each : EachKeeps m state P) where
    kind_keeps : (s : ℕ) (kind : EventKind) (choice : Choice) → IsCaused m state s kind → MayChoose state s kind choice → P (after_kind m state s kind choice)
    kind_keeps s (answers reply true) with_nothing c h = each.end s (is_over_after m s (session_at state.sessions s).number reply) c.active
    kind_keeps s (answers reply false) with_nothing c h = each.answer s reply c.active c.cause
    kind_keeps s (undoes entry) (with_undo_pages more) c h = each.undo s entry more c.active c.cause
    kind_keeps s (creates name schema) with_nothing c h = each.end s (is_over_after m s (session_at state.sessions s).number full_reply) c.active
    kind_keeps s (creates name schema) (with_roots leaf roots) c h = each.create s _ name schema leaf roots c.active c.cause h
    kind_keeps s (asks_table statement number mode) with_nothing c h = each.lock_table s statement number mode c.active c.cause h
    kind_keeps s (asks_table statement number mode) (with_blockers by ds) c h =
        each.refuse s (blockers_of by) ds c.active (refused_lock s (table_lock s number mode) by refl (asks_for_table s statement number mode c.cause) h.1) h.2
    kind_keeps s (asks_key number key mode) with_nothing c h = by_cause c.cause
      where
        by_cause : IsLockingKey (session_at state.sessions s) number key mode ⊎ IsLockingRow (session_at state.sessions s) number key mode → P (after_key_lock state s number key mode)
        by_cause (inl at) = each.lock_key s number key mode c.active at h
        by_cause (inr at) = each.lock_row s number key mode c.active at h
    kind_keeps s (asks_key number key mode) (with_blockers by ds) c h =
        each.refuse s (blockers_of by) ds c.active (refused_lock s (key_lock s number key mode) by refl (asks_for_key s number key mode c.cause) h.1) h.2
    kind_keeps s (visits number column predicate) with_nothing c h = each.visit s number column predicate c.active c.cause
    kind_keeps s (scans number leaf) with_nothing c h = each.scan s number leaf c.active c.cause
    kind_keeps s (steps d) (with_child q) c h = each.step s d q c.active c.cause h
    kind_keeps s (goes_stale d) with_nothing c h = each.stale s d c.active c.cause
    kind_keeps s finds_full with_nothing c h = each.full s c.active c.cause
    kind_keeps s (places d) (with_deadlocks ds) c h = each.refuse s (sessions_on (in_the_way state s d)) ds c.active (refused_entry s d c.cause) h.1
    kind_keeps s (places d) (with_divisions q ds) c h = each.place s d q ds c.active c.cause h
    kind_keeps s (writes number change placed) (with_put p) c h = each.row s number change placed p c.active c.cause h
    kind_keeps s kind choice c h = absurd h

    next_keeps : (s : ℕ) (kind : Option EventKind) (choice : Choice) → next m state s ≡ kind → MayGoOn state s kind choice → P (after_next m state s kind choice)
    next_keeps s None choice e h = absurd h
    next_keeps s (Some kind) choice e h = kind_keeps s kind choice (is_caused m state s kind e) h

    pub event_keeps : (actor : Actor) (choice : Choice) → MayHappen m state actor choice → P (after m state actor choice)
    event_keeps (acts s) choice h = next_keeps s (next m state s) choice refl h
    event_keeps purges with_nothing h = each.purge h
    event_keeps flushes (with_flushed n) h = each.still
    event_keeps lists_locks with_nothing h = each.still
    event_keeps actor choice h = absurd h
