-- Keys are locked behind intentions on their table, and so are searches.
use Rattle.std.proofs.Common.{◌≡◌, ◌⊎◌, ◌∙◌, inl, inr, refl, sym, ap, subst, ℕ, ℤ, ◌==◌, false, Some, None, List, ◌∷◌, map}
use Rattle.std.proofs.lemmas.Bool.{false≢true}
use Rattle.isp_mbr.specs.declared.predicate.Predicate.{Predicate}
use Rattle.isp_reclock.specs.declared.entries.Lock.{Lock}
use Rattle.isp_reclock.specs.declared.modes.Mode.{Mode}
use Rattle.isp_reclock.specs.declared.modes.Mode.TheVariants.{IS, IX, S, X}
use Rattle.isp_reclock.specs.Modes.{IsKeyMode}
use Rattle.isp_reclock.specs.Tables.{key_lock, table_lock, with_lock, without}
use Rattle.isp_plain.specs.declared.statement.Statement.{Statement}
use Rattle.isp_plain.specs.declared.statement.Statement.TheVariants.{Create, Insert, Select, Update, Delete, Begin, Commit, Rollback, Refused}
use Rattle.isp_forest.specs.Tree.{Tree}
use Rattle.isp_forest.specs.Place.{Division}
use Rattle.isp_events.specs.Sessions.{Change, locking, writing, unlocked, session_at, Work}
use Rattle.isp_events.specs.State.{State, TreeSearch}
use Rattle.isp_events.specs.Ways.{Machine, Way, by_key, by_box, by_scan}
use Rattle.isp_events.specs.Next.{Descent, key_mode, table_mode}
use Rattle.isp_events.specs.Reading.{with_search}
use Rattle.isp_events.specs.Placing.{search_after_place, tree_for}
use Rattle.isp_events.specs.Ending.{searches_without}
use Rattle.isp_events.specs.Events.{Actor, Choice, MayHappen, after}
use Rattle.isp_order.specs.Locks.{AreIntended, Holds, HoldsIntention, lock_on}
use Rattle.isp_order.specs.Work.{FitsPhase, way_of}
use Rattle.isp_order.specs.InOrder.{InOrder, IsProper}
use Rattle.isp_causes.specs.Causes.{IsLockingKey, IsLockingRow, IsVisiting}
use Rattle.isp_causes.proofs.EventCases.{EachKeeps, event_keeps}
use Rattle.isp_order_locks.proofs.LockLists.{held_before, held_by_other, held_without, still_held}
use Rattle.isp_order_locks.proofs.SearchParts.{WasThere, left_was, now_session, placed_was, seen_now, visit_was}

-- ---- the modes of a table and its keys

-- who locks keys that it has found has an intention on the table
pub modes_for_keys : (statement : Statement) (way : Way) (keys : List ℤ) → FitsPhase way statement (locking keys)
    → ((key_mode statement ≡ S) × (table_mode statement way ≡ IS)) ⊎ ((key_mode statement ≡ X) × (table_mode statement way ≡ IX))
modes_for_keys (Insert name rows) way keys h = absurd h
modes_for_keys (Select name columns w) (by_key key) keys h = inl (refl, refl)
modes_for_keys (Select name columns w) (by_box column predicate) keys h = inl (refl, refl)
modes_for_keys (Select name columns w) by_scan keys h = absurd (false≢true (sym h))
modes_for_keys (Create name schema) (by_key key) keys h = inr (refl, refl)
modes_for_keys (Create name schema) (by_box column predicate) keys h = inr (refl, refl)
modes_for_keys (Create name schema) by_scan keys h = absurd (false≢true (sym h))
modes_for_keys (Update name sets w) (by_key key) keys h = inr (refl, refl)
modes_for_keys (Update name sets w) (by_box column predicate) keys h = inr (refl, refl)
modes_for_keys (Update name sets w) by_scan keys h = absurd (false≢true (sym h))
modes_for_keys (Delete name w) (by_key key) keys h = inr (refl, refl)
modes_for_keys (Delete name w) (by_box column predicate) keys h = inr (refl, refl)
modes_for_keys (Delete name w) by_scan keys h = absurd (false≢true (sym h))
modes_for_keys Begin (by_key key) keys h = inr (refl, refl)
modes_for_keys Begin (by_box column predicate) keys h = inr (refl, refl)
modes_for_keys Begin by_scan keys h = absurd (false≢true (sym h))
modes_for_keys Commit (by_key key) keys h = inr (refl, refl)
modes_for_keys Commit (by_box column predicate) keys h = inr (refl, refl)
modes_for_keys Commit by_scan keys h = absurd (false≢true (sym h))
modes_for_keys Rollback (by_key key) keys h = inr (refl, refl)
modes_for_keys Rollback (by_box column predicate) keys h = inr (refl, refl)
modes_for_keys Rollback by_scan keys h = absurd (false≢true (sym h))
modes_for_keys (Refused refusal) (by_key key) keys h = inr (refl, refl)
modes_for_keys (Refused refusal) (by_box column predicate) keys h = inr (refl, refl)
modes_for_keys (Refused refusal) by_scan keys h = absurd (false≢true (sym h))

-- a key that isn't locked as it is written is one of INSERT
pub mode_for_rows : (statement : Statement) (way : Way) (done left : List Change) → FitsPhase way statement (writing done left unlocked) → table_mode statement way ≡ IX
mode_for_rows (Insert name rows) way done left h = refl
mode_for_rows (Select name columns w) way done left h = absurd h
mode_for_rows (Create name schema) way done left h = absurd h
mode_for_rows (Update name sets w) way done left h = absurd h
mode_for_rows (Delete name w) way done left h = absurd h
mode_for_rows Begin way done left h = absurd h
mode_for_rows Commit way done left h = absurd h
mode_for_rows Rollback way done left h = absurd h
mode_for_rows (Refused refusal) way done left h = absurd h

-- who searches has an intention
mode_for_box : (statement : Statement) (column : ℕ) (predicate : Predicate) → (table_mode statement (by_box column predicate) ≡ IS) ⊎ (table_mode statement (by_box column predicate) ≡ IX)
mode_for_box (Select name columns w) column predicate = inl refl
mode_for_box (Insert name rows) column predicate = inr refl
mode_for_box (Create name schema) column predicate = inr refl
mode_for_box (Update name sets w) column predicate = inr refl
mode_for_box (Delete name w) column predicate = inr refl
mode_for_box Begin column predicate = inr refl
mode_for_box Commit column predicate = inr refl
mode_for_box Rollback column predicate = inr refl
mode_for_box (Refused refusal) column predicate = inr refl

-- ---- each event

keeps_intention : (locks : List Lock) (lock : Lock) (s table : ℕ) → HoldsIntention locks s table → HoldsIntention (with_lock locks lock) s table
keeps_intention locks lock s table (inl h) = inl (still_held locks lock (lock_on s table None IS) h)
keeps_intention locks lock s table (inr h) = inr (still_held locks lock (lock_on s table None IX) h)

intended_without : (locks : List Lock) (searches : List TreeSearch) (s : ℕ) → AreIntended locks searches → AreIntended (without locks s) (searches_without searches s)
intended_without locks searches s i = record {
  shared = λ t table key h. (let p = held_without locks s (lock_on t table (Some key) S) h in held_by_other locks s (lock_on t table None IS) p.1 (i.shared t table key p.0));
  exclusive = λ t table key h. (let p = held_without locks s (lock_on t table (Some key) X) h in held_by_other locks s (lock_on t table None IX) p.1 (i.exclusive t table key p.0));
  on_keys = λ t table key mode h. i.on_keys t table key mode (held_without locks s (lock_on t table (Some key) mode) h).0;
  searching = λ x h. (let p = left_was searches s x h in kept x p.1 (i.searching x p.0));
}
  where
    kept : (x : TreeSearch) → (x.search.session == s) ≡ false → HoldsIntention locks x.search.session x.table → HoldsIntention (without locks s) x.search.session x.table
    kept x ne (inl h) = inl (held_by_other locks s (lock_on x.search.session x.table None IS) ne h)
    kept x ne (inr h) = inr (held_by_other locks s (lock_on x.search.session x.table None IX) ne h)

none_key : {Y : Type 0} (y : Y) → None ≡ Some y → ⊥
none_key y h = cc

with_table : (locks : List Lock) (searches : List TreeSearch) (s number : ℕ) (mode : Mode) → AreIntended locks searches → AreIntended (with_lock locks (table_lock s number mode)) searches
with_table locks searches s number mode i = record {
  shared = λ t table key h. still_held locks (table_lock s number mode) (lock_on t table None IS) (i.shared t table key (old t table key S h));
  exclusive = λ t table key h. still_held locks (table_lock s number mode) (lock_on t table None IX) (i.exclusive t table key (old t table key X h));
  on_keys = λ t table key x h. i.on_keys t table key x (old t table key x h);
  searching = λ x h. keeps_intention locks (table_lock s number mode) x.search.session x.table (i.searching x h);
}
  where
    old : (t table : ℕ) (key : ℤ) (x : Mode) → Holds (with_lock locks (table_lock s number mode)) t table (Some key) x → Holds locks t table (Some key) x
    old t table key x h = elim (held_before locks (table_lock s number mode) (lock_on t table (Some key) x) h) [
      | inl k ↦ k
      | inr e ↦ absurd (none_key key (sym (ap (λ (l : Lock). l.held.key) e)))
    ]

with_key : (locks : List Lock) (searches : List TreeSearch) (s number : ℕ) (k : ℤ) (mode : Mode) → AreIntended locks searches
    → (mode ≡ S → Holds locks s number None IS) → (mode ≡ X → Holds locks s number None IX) → IsKeyMode mode → AreIntended (with_lock locks (key_lock s number k mode)) searches
with_key locks searches s number k mode i if_shared if_exclusive is_mode = record {
  shared = λ t table key h. elim (held_before locks new (lock_on t table (Some key) S) h) [
    | inl old ↦ still_held locks new (lock_on t table None IS) (i.shared t table key old)
    | inr e ↦ still_held locks new (lock_on t table None IS) (behind t table key S IS e if_shared)
  ];
  exclusive = λ t table key h. elim (held_before locks new (lock_on t table (Some key) X) h) [
    | inl old ↦ still_held locks new (lock_on t table None IX) (i.exclusive t table key old)
    | inr e ↦ still_held locks new (lock_on t table None IX) (behind t table key X IX e if_exclusive)
  ];
  on_keys = λ t table key x h. elim (held_before locks new (lock_on t table (Some key) x) h) [
    | inl old ↦ i.on_keys t table key x old
    | inr e ↦ subst IsKeyMode (sym (ap (λ (l : Lock). l.held.mode) e)) is_mode
  ];
  searching = λ x h. keeps_intention locks new x.search.session x.table (i.searching x h);
}
  where
    new : Lock
    new = key_lock s number k mode

    behind : (t table : ℕ) (key : ℤ) (x y : Mode) → lock_on t table (Some key) x ≡ key_lock s number k mode → (mode ≡ x → Holds locks s number None y) → Holds locks t table None y
    behind t table key x y e f =
        let trx : t ≡ s = ap (λ (l : Lock). l.trx) e in
        let of : table ≡ number = ap (λ (l : Lock). l.held.table) e in
        let same : mode ≡ x = sym (ap (λ (l : Lock). l.held.mode) e) in
        subst (λ n. Holds locks t n None y) (sym of) (subst (λ i'. Holds locks i' number None y) (sym trx) (f same))

mode_apart : (mode other : Mode) → mode ≡ S → mode ≡ X → ⊥
mode_apart mode other e f = let no : S ≡ X = sym e ∙ f in cc

module _ (m : Machine) (state : State) (good : IsProper m) (o : InOrder m state) where
  holds_table : (s : ℕ) (work : Work) → (session_at state.sessions s).work ≡ Some work → (mode : Mode) → table_mode work.statement (way_of m.ways state.tables work) ≡ mode
      → Holds state.locks s work.table None mode
  holds_table s work at_work mode is = subst (λ x. Holds state.locks s work.table None x) is (o.table_locked s work at_work)

  key_intended : (s number : ℕ) (key : ℤ) (mode : Mode) → IsLockingKey (session_at state.sessions s) number key mode → AreIntended (with_lock state.locks (key_lock s number key mode)) state.searches
  key_intended s number key mode at = by_mode (modes_for_keys at.work.statement (way_of m.ways state.tables at.work) (key ∷ at.keys)
      (subst (FitsPhase (way_of m.ways state.tables at.work) at.work.statement) at.phase (o.bound s at.work at.goes_on.at_work).phase))
    where
      by_mode : ((key_mode at.work.statement ≡ S) × (table_mode at.work.statement (way_of m.ways state.tables at.work) ≡ IS))
          ⊎ ((key_mode at.work.statement ≡ X) × (table_mode at.work.statement (way_of m.ways state.tables at.work) ≡ IX))
          → AreIntended (with_lock state.locks (key_lock s number key mode)) state.searches
      by_mode (inl e) =
          let is : mode ≡ S = at.mode_is ∙ e.0 in
          with_key state.locks state.searches s number key mode o.intended
          (λ i. subst (λ n. Holds state.locks s n None IS) (sym at.number_is) (holds_table s at.work at.goes_on.at_work IS e.1))
          (λ i. absurd (mode_apart mode mode is i)) (subst IsKeyMode (sym is) tt)
      by_mode (inr e) =
          let is : mode ≡ X = at.mode_is ∙ e.0 in
          with_key state.locks state.searches s number key mode o.intended (λ i. absurd (mode_apart mode mode i is))
          (λ i. subst (λ n. Holds state.locks s n None IX) (sym at.number_is) (holds_table s at.work at.goes_on.at_work IX e.1))
          (subst IsKeyMode (sym is) tt)

  row_intended : (s number : ℕ) (key : ℤ) (mode : Mode) → IsLockingRow (session_at state.sessions s) number key mode → AreIntended (with_lock state.locks (key_lock s number key mode)) state.searches
  row_intended s number key mode at =
      let is : table_mode at.work.statement (way_of m.ways state.tables at.work) ≡ IX =
      mode_for_rows at.work.statement (way_of m.ways state.tables at.work) at.done (at.change ∷ at.left)
      (subst (FitsPhase (way_of m.ways state.tables at.work) at.work.statement) at.phase (o.bound s at.work at.goes_on.at_work).phase) in
      with_key state.locks state.searches s number key mode o.intended (λ i. absurd (mode_apart mode mode i at.mode_is))
      (λ i. subst (λ n. Holds state.locks s n None IX) (sym at.number_is) (holds_table s at.work at.goes_on.at_work IX is))
      (subst IsKeyMode (sym at.mode_is) tt)

  visit_intended : (s number column : ℕ) (predicate : Predicate) (at : IsVisiting m state (session_at state.sessions s) number column predicate)
      → AreIntended state.locks (with_search state.searches number column (seen_now m state o s number column predicate at))
  visit_intended s number column predicate at = record {
    shared = o.intended.shared;
    exclusive = o.intended.exclusive;
    on_keys = o.intended.on_keys;
    searching = λ x h. by_cases x (visit_was m state o s number column predicate at x h);
  }
    where
      by_mode : (table_mode at.work.statement (by_box column predicate) ≡ IS) ⊎ (table_mode at.work.statement (by_box column predicate) ≡ IX) → HoldsIntention state.locks s at.work.table
      by_mode (inl e) = inl (holds_table s at.work at.goes_on.at_work IS (ap (table_mode at.work.statement) at.way ∙ e))
      by_mode (inr e) = inr (holds_table s at.work at.goes_on.at_work IX (ap (table_mode at.work.statement) at.way ∙ e))

      by_cases : (x : TreeSearch) → WasThere state.searches x ⊎ (record { table = number; column = column; search = seen_now m state o s number column predicate at } ≡ x)
          → HoldsIntention state.locks x.search.session x.table
      by_cases x (inl was) =
          subst (λ t. HoldsIntention state.locks x.search.session t) (sym was.still.of_table)
          (subst (λ k. HoldsIntention state.locks k was.before.table) (sym was.still.same.session) (o.intended.searching was.before was.among))
      by_cases x (inr e) =
          subst (λ (y : TreeSearch). HoldsIntention state.locks y.search.session y.table) e
          (subst (λ k. HoldsIntention state.locks k number) (sym (now_session m state o s number column predicate at))
          (subst (λ n. HoldsIntention state.locks s n) (sym at.number_is) (by_mode (mode_for_box at.work.statement column predicate))))

  place_intended : (tree : Tree) (d : Descent) (number q : ℕ) (ds : List Division) → AreIntended state.locks (map (search_after_place tree d number q ds) state.searches)
  place_intended tree d number q ds = record {
    shared = o.intended.shared;
    exclusive = o.intended.exclusive;
    on_keys = o.intended.on_keys;
    searching = λ x h. (let was = placed_was tree d number q ds state.searches x h in
        subst (λ t. HoldsIntention state.locks x.search.session t) (sym was.still.of_table)
        (subst (λ k. HoldsIntention state.locks k was.before.table) (sym was.still.same.session) (o.intended.searching was.before was.among)));
  }

  pub intended_each : EachKeeps m state (λ (st : State). AreIntended st.locks st.searches)
  intended_each = record {
    still = o.intended;
    purge = λ some. o.intended;
    end = λ s over active. intended_without state.locks state.searches s o.intended;
    answer = λ s reply active at. o.intended;
    undo = λ s entry more active at. o.intended;
    create = λ s over name schema leaf roots active at may. intended_without state.locks state.searches s o.intended;
    refuse = λ s on ds active at may. o.intended;
    lock_table = λ s statement number mode active at none. with_table state.locks state.searches s number mode o.intended;
    lock_key = λ s number key mode active at none. key_intended s number key mode at;
    lock_row = λ s number key mode active at none. row_intended s number key mode at;
    visit = λ s number column predicate active at. visit_intended s number column predicate at;
    scan = λ s number leaf active at. o.intended;
    step = λ s d q active at may. o.intended;
    stale = λ s d active at. o.intended;
    full = λ s active at. o.intended;
    place = λ s d q ds active at may. place_intended (tree_for state d) d state.entries q ds;
    row = λ s number change placed p active at may. o.intended;
  }

pub intended_kept : (m : Machine) (state : State) (actor : Actor) (choice : Choice) → IsProper m → InOrder m state → MayHappen m state actor choice
    → AreIntended (after m state actor choice).locks (after m state actor choice).searches
intended_kept m state actor choice good o h = event_keeps m state good o (λ (st : State). AreIntended st.locks st.searches) (intended_each m state good o) actor choice h
