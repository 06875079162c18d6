-- A statement at work has the lock on its table.
use Rattle.std.proofs.Common.{◌≡◌, ◌∙◌, refl, sym, ap, subst, ℕ, ◌==◌, false, Option, Some, None, List, map}
use Rattle.std.specs.Prelude.{slice_set}
use Rattle.std.specs.Option.{option_map}
use Rattle.isp_reclock.specs.declared.entries.Lock.{Lock}
use Rattle.isp_reclock.specs.declared.modes.Mode.{Mode}
use Rattle.isp_reclock.specs.Tables.{key_lock, table_lock, with_lock, without}
use Rattle.isp_plain.specs.declared.statement.Statement.{Statement}
use Rattle.isp_events.specs.Stored.{StoredTable, table_at}
use Rattle.isp_events.specs.Sessions.{SessionState, Work, session_at}
use Rattle.isp_events.specs.State.{State}
use Rattle.isp_events.specs.Ways.{Machine}
use Rattle.isp_events.specs.Next.{table_mode}
use Rattle.isp_events.specs.Deadlocks.{Deadlock, with_victims}
use Rattle.isp_events.specs.Placing.{table_after_place}
use Rattle.isp_events.specs.Writing.{table_after_row, table_with_row}
use Rattle.isp_events.specs.Ending.{restored}
use Rattle.isp_events.specs.Purging.{tables_purged}
use Rattle.isp_events.specs.Events.{Actor, Choice, MayHappen, after}
use Rattle.isp_order.specs.Locks.{Holds}
use Rattle.isp_order.specs.Work.{HaveTable, OfEachWork}
use Rattle.isp_order.specs.InOrder.{InOrder, IsProper}
use Rattle.isp_order.proofs.TableLaws.{definition_at, definitions_changed, purged_keeps, row_keeps, same_schema}
use Rattle.isp_causes.specs.Causes.{IsActive, IsLockingTable}
use Rattle.isp_causes.proofs.EventCases.{EachKeeps, event_keeps}
use Rattle.isp_order_locks.proofs.LockLists.{Keeps, now_held}
use Rattle.isp_order_locks.proofs.LockedLaws.{keeps_all, keeps_others}
use Rattle.isp_order_work.proofs.WorkParts.{carried, no_work, none_some, some_is, work_step, work_victims}

module _ (m : Machine) (state : State) (good : IsProper m) (o : InOrder m state) where
  abbrev HasTable : List StoredTable → List Lock → ℕ → SessionState → Work → Type 0
  HasTable tables locks k session work = Holds locks k work.table None (table_mode work.statement (m.ways (table_at tables work.table).schema work.statement))

  moved : (tables : List StoredTable) (locks : List Lock) (k : ℕ) (session new : SessionState) (work now : Work) → map definition_at tables ≡ map definition_at state.tables
      → Keeps state.locks locks k → now.table ≡ work.table → now.statement ≡ work.statement → HasTable state.tables state.locks k session work → HasTable tables locks k new now
  moved tables locks k session new work now same keep table statement h =
      let mode_is : table_mode now.statement (m.ways (table_at tables now.table).schema now.statement) ≡ table_mode work.statement (m.ways (table_at state.tables work.table).schema work.statement) =
      ap (λ sch. table_mode now.statement (m.ways sch now.statement)) (same_schema now.table tables state.tables same)
      ∙ ap (λ t. table_mode now.statement (m.ways (table_at state.tables t).schema now.statement)) table
      ∙ ap (λ st. table_mode st (m.ways (table_at state.tables work.table).schema st)) statement in
      subst (λ x. Holds locks k now.table None x) (sym mode_is)
      (subst (λ t. Holds locks k t None (table_mode work.statement (m.ways (table_at state.tables work.table).schema work.statement))) (sym table)
      (keep work.table None (table_mode work.statement (m.ways (table_at state.tables work.table).schema work.statement)) h))

  old_table : (k : ℕ) (work : Work) → (session_at state.sessions k).work ≡ Some work → HasTable state.tables state.locks k (session_at state.sessions k) work
  old_table k work at = o.table_locked k work at

  as_table : (tables : List StoredTable) (locks : List Lock) (sessions : List SessionState) → OfEachWork sessions (HasTable tables locks) → HaveTable m.ways tables locks sessions
  as_table tables locks sessions h = h

  -- a session whose work stays on its table
  step : (s : ℕ) (tables : List StoredTable) (locks : List Lock) (new : SessionState) → IsActive state s → map definition_at tables ≡ map definition_at state.tables
      → ((k : ℕ) → (k == s) ≡ false → Keeps state.locks locks k)
      → ((work : Work) → new.work ≡ Some work → HasTable tables locks s new work) → HaveTable m.ways tables locks (slice_set state.sessions s new)
  step s tables locks new active same keep own =
      as_table tables locks (slice_set state.sessions s new)
      (work_step (HasTable tables locks) state.sessions s new active.not_over own
      (λ k ne work at. moved tables locks k (session_at state.sessions k) (session_at state.sessions k) work work same (keep k ne) refl refl (old_table k work at)))

  at_work : (s : ℕ) (tables : List StoredTable) (locks : List Lock) (new : SessionState) (f : Work → Work) → IsActive state s → map definition_at tables ≡ map definition_at state.tables
      → ((k : ℕ) → Keeps state.locks locks k) → ((w : Work) → (f w).table ≡ w.table) → ((w : Work) → (f w).statement ≡ w.statement)
      → new.work ≡ option_map f (session_at state.sessions s).work → HaveTable m.ways tables locks (slice_set state.sessions s new)
  at_work s tables locks new f active same keep table statement is = step s tables locks new active same (λ k ne. keep k) (λ now at. by_work now at (session_at state.sessions s).work refl)
    where
      by_work : (now : Work) → new.work ≡ Some now → (work : Option Work) → (session_at state.sessions s).work ≡ work → HasTable tables locks s new now
      by_work now at None e = absurd (none_some now (sym (ap (option_map f) e) ∙ sym is ∙ at))
      by_work now at (Some work) e =
          let now_is : f work ≡ now = carried f (session_at state.sessions s) new work now is e at in
          moved tables locks s (session_at state.sessions s) new work now same (keep s) (ap (λ (w : Work). w.table) (sym now_is) ∙ table work) (ap (λ (w : Work). w.statement) (sym now_is) ∙ statement work)
          (old_table s work e)

  without_work : (s : ℕ) (tables : List StoredTable) (locks : List Lock) (new : SessionState) → IsActive state s → map definition_at tables ≡ map definition_at state.tables
      → ((k : ℕ) → (k == s) ≡ false → Keeps state.locks locks k) → new.work ≡ None → HaveTable m.ways tables locks (slice_set state.sessions s new)
  without_work s tables locks new active same keep none = step s tables locks new active same keep (λ now at. absurd (no_work new now none at))

  same_keep : (k : ℕ) → Keeps state.locks state.locks k
  same_keep k table key mode h = h

  begun : (s : ℕ) (statement : Statement) (number : ℕ) (mode : Mode) (new : SessionState) (work : Work) → IsActive state s → IsLockingTable m state s (session_at state.sessions s) statement number mode
      → new.work ≡ Some work → work.table ≡ number → work.statement ≡ statement → HaveTable m.ways state.tables (with_lock state.locks (table_lock s number mode)) (slice_set state.sessions s new)
  begun s statement number mode new work active at is table of =
      step s state.tables (with_lock state.locks (table_lock s number mode)) new active refl (λ k ne. keeps_all state.locks (table_lock s number mode) k) (λ now now_at. own now (some_is work now (sym is ∙ now_at)))
    where
      held : Holds (with_lock state.locks (table_lock s number mode)) s number None mode
      held = now_held state.locks (table_lock s number mode)

      of_work : HasTable state.tables (with_lock state.locks (table_lock s number mode)) s new work
      of_work =
          let mode_is : table_mode work.statement (m.ways (table_at state.tables work.table).schema work.statement) ≡ mode =
          ap (λ st. table_mode st (m.ways (table_at state.tables work.table).schema st)) of
          ∙ ap (λ t. table_mode statement (m.ways (table_at state.tables t).schema statement)) table ∙ sym at.mode_is in
          subst (λ x. Holds (with_lock state.locks (table_lock s number mode)) s work.table None x) (sym mode_is)
          (subst (λ t. Holds (with_lock state.locks (table_lock s number mode)) s t None mode) (sym table) held)

      own : (now : Work) → work ≡ now → HasTable state.tables (with_lock state.locks (table_lock s number mode)) s new now
      own now e = subst (λ w. HasTable state.tables (with_lock state.locks (table_lock s number mode)) s new w) e of_work

  -- while the setup makes tables, nobody is at work
  created : (s : ℕ) (tables : List StoredTable) (new : SessionState) → IsActive state s → s ≡ 0 → new.work ≡ None → HaveTable m.ways tables (without state.locks s) (slice_set state.sessions s new)
  created s tables new active is none =
      as_table tables (without state.locks s) (slice_set state.sessions s new)
      (work_step (HasTable tables (without state.locks s)) state.sessions s new active.not_over (λ now at. absurd (no_work new now none at))
      (λ k ne work at. absurd (no_work (session_at state.sessions k) work
      (o.idle.setup_first (subst (λ i. (session_at state.sessions i).over ≡ false) is active.not_over) k (ap (λ i. k == i) (sym is) ∙ ne)).0.no_work at)))

  refused : (ds : List Deadlock) → HaveTable m.ways state.tables state.locks (with_victims state.sessions ds)
  refused ds = work_victims (HasTable state.tables state.locks) (λ k x work h. h) state.sessions ds (λ k work at. o.table_locked k work at)

  purged : HaveTable m.ways (tables_purged state.locks state.queue state.tables) state.locks state.sessions
  purged k work at =
      moved (tables_purged state.locks state.queue state.tables) state.locks k (session_at state.sessions k) (session_at state.sessions k) work work
      (purged_keeps state.locks state.queue state.tables) (same_keep k) refl refl (old_table k work at)

  same_work : (work : Option Work) → work ≡ option_map (λ w. w) work
  same_work None = refl
  same_work (Some work) = refl

  pub table_each : EachKeeps m state (λ (st : State). HaveTable m.ways st.tables st.locks st.sessions)
  table_each = record {
    still = o.table_locked;
    purge = λ some. purged;
    end = λ s over active. without_work s state.tables (without state.locks s) _ active refl (keeps_others state.locks s) refl;
    answer = λ s reply active at. without_work s state.tables state.locks _ active refl (λ k ne. same_keep k) refl;
    undo = λ s entry more active at. at_work s _ state.locks _ (λ w. w) active (definitions_changed entry.table (table_with_row entry.key (restored entry.image)) state.tables (λ t. refl)) same_keep
        (λ w. refl) (λ w. refl) (same_work (session_at state.sessions s).work);
    create = λ s over name schema leaf roots active at may. created s _ _ active at.setup refl;
    refuse = λ s on ds active at may. refused ds;
    lock_table = λ s statement number mode active at none. begun s statement number mode _ _ active at refl refl refl;
    lock_key = λ s number key mode active at none. at_work s state.tables _ _ _ active refl (keeps_all state.locks (key_lock s number key mode)) (λ w. refl) (λ w. refl) refl;
    lock_row = λ s number key mode active at none. at_work s state.tables _ _ _ active refl (keeps_all state.locks (key_lock s number key mode)) (λ w. refl) (λ w. refl) refl;
    visit = λ s number column predicate active at. at_work s state.tables state.locks _ _ active refl same_keep (λ w. refl) (λ w. refl) refl;
    scan = λ s number leaf active at. at_work s state.tables state.locks _ _ active refl same_keep (λ w. refl) (λ w. refl) refl;
    step = λ s d q active at may. at_work s state.tables state.locks _ _ active refl same_keep (λ w. refl) (λ w. refl) refl;
    stale = λ s d active at. at_work s state.tables state.locks _ _ active refl same_keep (λ w. refl) (λ w. refl) refl;
    full = λ s active at. at_work s state.tables state.locks _ _ active refl same_keep (λ w. refl) (λ w. refl) refl;
    place = λ s d q ds active at may. at_work s _ state.locks _ _ active (definitions_changed d.table (table_after_place d state.entries q ds) state.tables (λ t. refl)) same_keep (λ w. refl) (λ w. refl) refl;
    row = λ s number change placed p active at may. at_work s _ state.locks _ _ active
        (definitions_changed number (table_after_row p change placed change.new) state.tables (row_keeps p change placed change.new)) same_keep (λ w. refl) (λ w. refl) refl;
  }

pub table_kept : (m : Machine) (state : State) (actor : Actor) (choice : Choice) → IsProper m → InOrder m state → MayHappen m state actor choice
    → HaveTable m.ways (after m state actor choice).tables (after m state actor choice).locks (after m state actor choice).sessions
table_kept m state actor choice good o h =
    event_keeps m state good o (λ (st : State). HaveTable m.ways st.tables st.locks st.sessions) (table_each m state good o) actor choice h
