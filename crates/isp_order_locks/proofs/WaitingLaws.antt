-- Whom a session waits for stands in the way of what it asks for.
use Rattle.std.proofs.Common.{◌≡◌, ◌∙◌, inl, inr, refl, sym, ap, subst, ℕ, ◌==◌, cond, Bool, true, false, Option, Some, None, List, [], ◌∷◌, map, eqb-true}
use Rattle.std.specs.Prelude.{IsTrue, slice_set}
use Rattle.std.specs.Option.{option_and_then}
use Rattle.isp_base.specs.Lists.{Has}
use Rattle.isp_mbr.specs.Predicates.{satisfies}
use Rattle.isp_mbr.specs.declared.predicate.Predicate.{Predicate}
use Rattle.isp_reclock.specs.declared.entries.Lock.{Lock}
use Rattle.isp_reclock.specs.Tables.{key_lock, table_lock, with_lock, without}
use Rattle.isp_waits.specs.Graphs.{WaitsFor, has, waits_of}
use Rattle.isp_plain.specs.declared.statement.Statement.{Statement}
use Rattle.isp_plain.specs.declared.statement.Statement.TheVariants.{Create, Insert, Select, Update, Delete, Begin, Commit, Rollback, Refused}
use Rattle.isp_serial.specs.Script.{text_at}
use Rattle.isp_serial.specs.Serial.{place_at}
use Rattle.isp_events.specs.Stored.{StoredTable, change_table, table_at}
use Rattle.isp_events.specs.Sessions.{SessionState, Work, session_at}
use Rattle.isp_events.specs.State.{State, TreeSearch, ended}
use Rattle.isp_events.specs.Ways.{Machine}
use Rattle.isp_events.specs.Next.{number_of, table_mode}
use Rattle.isp_events.specs.Deadlocks.{Deadlock, as_victim, broken, with_victims}
use Rattle.isp_events.specs.Placing.{table_after_place, tree_for}
use Rattle.isp_events.specs.Writing.{table_after_row, table_with_row}
use Rattle.isp_events.specs.Ending.{restored, searches_without}
use Rattle.isp_events.specs.Purging.{tables_purged}
use Rattle.isp_events.specs.Events.{Actor, Choice, MayHappen, after}
use Rattle.isp_order.specs.Locks.{AreWaiting, Demand, StandsInTheWay, WaitsRightly, demand_at_first, demand_of, demand_of_statement, demand_on_table, for_entry, for_lock, without_rows}
use Rattle.isp_order.specs.InOrder.{InOrder, IsProper}
use Rattle.isp_order.proofs.SessionLaws.{other_at}
use Rattle.isp_order.proofs.TableLaws.{definition_at, definitions_changed, definitions_seen, purged_keeps, row_keeps, same_number, same_schema}
use Rattle.isp_causes.specs.Causes.{IsActive}
use Rattle.isp_causes.proofs.EventCases.{EachKeeps, IsRefused, event_keeps}
use Rattle.isp_order_locks.proofs.LockLists.{Keeps}
use Rattle.isp_order_locks.proofs.LockedLaws.{keeps_all, keeps_others}
use Rattle.isp_order_locks.proofs.WaitGraphs.{nobody, remaining, waits_none, waits_other, waits_same}
use Rattle.isp_order_locks.proofs.SearchParts.{IsThere, left_is, placed_is, still_itself, visit_is}

module _ (m : Machine) (good : IsProper m) (tables others : List StoredTable) (same : map definition_at tables ≡ map definition_at others) where
  demand_table : (s : ℕ) (statement : Statement) (name : List ℕ) → demand_on_table m.ways tables s statement name ≡ demand_on_table m.ways others s statement name
  demand_table s statement name =
      let number : number_of tables name ≡ number_of others name = same_number name tables others same in
      ap (λ sch. Some (for_lock (table_lock s (number_of tables name) (table_mode statement (m.ways sch statement))))) (same_schema (number_of tables name) tables others same)
      ∙ ap (λ n. Some (for_lock (table_lock s n (table_mode statement (m.ways (table_at others n).schema statement))))) number

  demand_first : (s : ℕ) (statement : Statement) → demand_at_first m.ways tables s statement ≡ demand_at_first m.ways others s statement
  demand_first s (Insert name rows) = demand_table s (Insert name rows) name
  demand_first s (Select name columns w) = demand_table s (Select name columns w) name
  demand_first s (Update name sets w) = demand_table s (Update name sets w) name
  demand_first s (Delete name w) = demand_table s (Delete name w) name
  demand_first s (Create name schema) = refl
  demand_first s Begin = refl
  demand_first s Commit = refl
  demand_first s Rollback = refl
  demand_first s (Refused refusal) = refl

  demand_statement : (s : ℕ) (session : SessionState) (text : List ℕ) (work : Option Work)
      → demand_of_statement m tables s session text work ≡ demand_of_statement m others s session text work
  demand_statement s session text None =
      demand_first s (m.language.meaning (without_rows tables) (place_at s session.inside) text)
      ∙ ap (demand_at_first m.ways others s)
      (good.servable.defined (without_rows tables) (without_rows others) (place_at s session.inside) text
      (definitions_seen (λ number key. None) tables ∙ same ∙ sym (definitions_seen (λ number key. None) others)))
  demand_statement s session text (Some work) = refl

  demand_text : (s : ℕ) (session : SessionState) (text : Option (List ℕ))
      → option_and_then (λ t. demand_of_statement m tables s session t session.work) text ≡ option_and_then (λ t. demand_of_statement m others s session t session.work) text
  demand_text s session None = refl
  demand_text s session (Some text) = demand_statement s session text session.work

  pub same_demand : (s : ℕ) (session : SessionState) → demand_of m tables s session ≡ demand_of m others s session
  same_demand s session = ap (cond session.victim None) (demand_text s session (text_at m.script s session.number))

-- ---- who stands in the way goes on to

pub stands_on : (locks new : List Lock) (searches others : List TreeSearch) (by : ℕ) (demand : Demand) → Keeps locks new by
    → ((x : TreeSearch) → Has searches x → x.search.session ≡ by → IsThere others x) → StandsInTheWay locks searches by demand → StandsInTheWay new others by demand
stands_on locks new searches others by (for_lock asked) keep there h = record {
  mode = h.mode;
  held = keep asked.held.table asked.held.key h.mode h.held;
  conflict = h.conflict;
}
stands_on locks new searches others by (for_entry table column box) keep there h =
    let now = there h.search h.among h.session in
    record {
      search = now.now;
      among = now.among;
      session = now.still.same.session ∙ h.session;
      of_table = now.still.of_table ∙ h.of_table;
      of_column = now.still.of_column ∙ h.of_column;
      satisfied = ap (λ (p : Predicate). satisfies p box) now.still.same.predicate ∙ h.satisfied;
    }

pub there_itself : (searches : List TreeSearch) (x : TreeSearch) → Has searches x → IsThere searches x
there_itself searches x h = record { now = x; among = h; still = still_itself x }

-- who still waits behind broken cycles waited before, and is no victim
pub record IsUnbroken (waits : List (List ℕ)) (sessions : List SessionState) (ds : List Deadlock) (k by : ℕ) : Type 0 where
  pub before : WaitsFor waits k by
  pub session : session_at (with_victims sessions ds) k ≡ session_at sessions k

pub unbroken : (waits : List (List ℕ)) (sessions : List SessionState) (ds : List Deadlock) (k by : ℕ) → WaitsFor (broken waits ds) k by → IsUnbroken waits sessions ds k by
unbroken waits sessions [] k by w = record { before = w; session = refl }
unbroken waits sessions (d ∷ ds) k by w =
    let rest = unbroken (slice_set waits d.victim []) (slice_set sessions d.victim (as_victim (session_at sessions d.victim))) ds k by w in
    by_test (k == d.victim) refl rest.before rest.session
  where
    by_test : (b : Bool) → (k == d.victim) ≡ b → WaitsFor (slice_set waits d.victim []) k by
        → session_at (with_victims (slice_set sessions d.victim (as_victim (session_at sessions d.victim))) ds) k ≡ session_at (slice_set sessions d.victim (as_victim (session_at sessions d.victim))) k
        → IsUnbroken waits sessions (d ∷ ds) k by
    by_test true e before session =
        absurd (nobody (slice_set waits d.victim []) k by (subst (λ i. waits_of (slice_set waits d.victim []) i ≡ []) (sym (eqb-true k d.victim e)) (waits_none waits d.victim)) before)
    by_test false e before session = record {
      before = subst (λ list. IsTrue (has list by)) (waits_other waits d.victim k [] e) before;
      session = session ∙ other_at sessions d.victim k (as_victim (session_at sessions d.victim)) e;
    }

module _ (m : Machine) (state : State) (good : IsProper m) (o : InOrder m state) where
  -- a session that waits isn't the one that acts
  waits_apart : (s k by : ℕ) → IsActive state s → WaitsFor state.waits k by → (k == s) ≡ false
  waits_apart s k by active w = by_test (k == s) refl
    where
      by_test : (b : Bool) → (k == s) ≡ b → b ≡ false
      by_test true e = absurd (nobody state.waits s by active.awake (subst (λ i. WaitsFor state.waits i by) (eqb-true k s e) w))
      by_test false e = refl

  -- what an event leaves of those who wait, and of those for whom they wait
  pub record LeavesWaits (s : ℕ) (tables : List StoredTable) (locks : List Lock) (searches : List TreeSearch) : Type 0 where
    pub same_tables : map definition_at tables ≡ map definition_at state.tables
    pub keep : (by : ℕ) → Keeps state.locks locks by
    pub there : (x : TreeSearch) → Has state.searches x → IsThere searches x

  goes_on : (tables : List StoredTable) (locks : List Lock) (searches : List TreeSearch) (sessions : List SessionState) (k by : ℕ) → map definition_at tables ≡ map definition_at state.tables
      → Keeps state.locks locks by → ((x : TreeSearch) → Has state.searches x → x.search.session ≡ by → IsThere searches x) → session_at sessions k ≡ session_at state.sessions k
      → WaitsRightly m state.tables state.locks state.searches state.sessions k by → WaitsRightly m tables locks searches sessions k by
  goes_on tables locks searches sessions k by same keep there session w = record {
    other = w.other;
    demand = w.demand;
    asks = same_demand m good tables state.tables same k (session_at sessions k) ∙ ap (demand_of m state.tables k) session ∙ w.asks;
    stands = stands_on state.locks locks state.searches searches by w.demand keep there w.stands;
  }

  waiting_step : (s : ℕ) (tables : List StoredTable) (locks : List Lock) (searches : List TreeSearch) (new : SessionState) → IsActive state s → LeavesWaits s tables locks searches
      → AreWaiting m tables locks searches (slice_set state.sessions s new) state.waits
  waiting_step s tables locks searches new active c k by w =
      goes_on tables locks searches (slice_set state.sessions s new) k by c.same_tables (c.keep by) (λ x h e. c.there x h)
      (other_at state.sessions s k new (waits_apart s k by active w)) (o.waiting k by w)

  waiting_end : (s : ℕ) (new : SessionState) → IsActive state s
      → AreWaiting m state.tables (without state.locks s) (searches_without state.searches s) (slice_set state.sessions s new) (ended state.waits s)
  waiting_end s new active k by w =
      let r = remaining state.waits s k by w in
      goes_on state.tables (without state.locks s) (searches_without state.searches s) (slice_set state.sessions s new) k by refl (keeps_others state.locks s by r.not_for)
      (λ x h e. there_itself (searches_without state.searches s) x (left_is state.searches s x (ap (λ i. i == s) e ∙ r.not_for) h)) (other_at state.sessions s k new r.not_of)
      (o.waiting k by r.before)

  -- while the setup makes tables, nobody waits
  waiting_create : (s : ℕ) (tables : List StoredTable) (new : SessionState) → IsActive state s → s ≡ 0
      → AreWaiting m tables (without state.locks s) (searches_without state.searches s) (slice_set state.sessions s new) (ended state.waits s)
  waiting_create s tables new active is k by w =
      let r = remaining state.waits s k by w in
      let none = (o.idle.setup_first (subst (λ i. (session_at state.sessions i).over ≡ false) is active.not_over) k (ap (λ i. k == i) (sym is) ∙ r.not_of)).1 in
      absurd (nobody state.waits k by none r.before)

  waiting_refuse : (s : ℕ) (on : List ℕ) (ds : List Deadlock) → IsActive state s → IsRefused m state s on
      → AreWaiting m state.tables state.locks state.searches (with_victims state.sessions ds) (broken (slice_set state.waits s on) ds)
  waiting_refuse s on ds active at k by w =
      let u = unbroken (slice_set state.waits s on) state.sessions ds k by w in
      by_test (k == s) refl u.before u.session
    where
      own : IsTrue (has on by) → session_at (with_victims state.sessions ds) s ≡ session_at state.sessions s
          → WaitsRightly m state.tables state.locks state.searches (with_victims state.sessions ds) s by
      own h session = record {
        other = at.others by h;
        demand = at.demand;
        asks = ap (demand_of m state.tables s) session ∙ at.asks;
        stands = at.stand by h;
      }

      own_edge : WaitsFor (slice_set state.waits s on) s by → IsTrue (has on by)
      own_edge v = elim (waits_same state.waits s on) [
        | inl e ↦ subst (λ list. IsTrue (has list by)) e v
        | inr e ↦ absurd (nobody (slice_set state.waits s on) s by e v)
      ]

      by_test : (b : Bool) → (k == s) ≡ b → WaitsFor (slice_set state.waits s on) k by → session_at (with_victims state.sessions ds) k ≡ session_at state.sessions k
          → WaitsRightly m state.tables state.locks state.searches (with_victims state.sessions ds) k by
      by_test true e before session =
          let is : k ≡ s = eqb-true k s e in
          subst (λ i. WaitsRightly m state.tables state.locks state.searches (with_victims state.sessions ds) i by) (sym is)
          (own (own_edge (subst (λ i. WaitsFor (slice_set state.waits s on) i by) is before))
          (subst (λ i. session_at (with_victims state.sessions ds) i ≡ session_at state.sessions i) is session))
      by_test false e before session =
          goes_on state.tables state.locks state.searches (with_victims state.sessions ds) k by refl (λ table key mode h. h) (λ x h e'. there_itself state.searches x h) session
          (o.waiting k by (subst (λ list. IsTrue (has list by)) (waits_other state.waits s k on e) before))

  -- ---- the parts that events leave

  same_of : (s : ℕ) → LeavesWaits s state.tables state.locks state.searches
  same_of s = record { same_tables = refl; keep = λ by table key mode h. h; there = there_itself state.searches }

  locks_of : (s : ℕ) (lock : Lock) → LeavesWaits s state.tables (with_lock state.locks lock) state.searches
  locks_of s lock = record { same_tables = refl; keep = keeps_all state.locks lock; there = there_itself state.searches }

  changed_of : (s n : ℕ) (f : StoredTable → StoredTable) → ((t : StoredTable) → definition_at (f t) ≡ definition_at t) → LeavesWaits s (change_table n f state.tables) state.locks state.searches
  changed_of s n f keeps = record { same_tables = definitions_changed n f state.tables keeps; keep = λ by table key mode h. h; there = there_itself state.searches }

  pub waiting_each : EachKeeps m state (λ (st : State). AreWaiting m st.tables st.locks st.searches st.sessions st.waits)
  waiting_each = record {
    still = o.waiting;
    purge = λ some k by w. goes_on (tables_purged state.locks state.queue state.tables) state.locks state.searches state.sessions k by (purged_keeps state.locks state.queue state.tables)
        (λ table key mode h. h) (λ x h e. there_itself state.searches x h) refl (o.waiting k by w);
    end = λ s over active. waiting_end s _ active;
    answer = λ s reply active at. waiting_step s state.tables state.locks state.searches _ active (same_of s);
    undo = λ s entry more active at. waiting_step s _ state.locks state.searches _ active (changed_of s entry.table (table_with_row entry.key (restored entry.image)) (λ t. refl));
    create = λ s over name schema leaf roots active at may. waiting_create s _ _ active at.setup;
    refuse = λ s on ds active at may. waiting_refuse s on ds active at;
    lock_table = λ s statement number mode active at none. waiting_step s state.tables _ state.searches _ active (locks_of s (table_lock s number mode));
    lock_key = λ s number key mode active at none. waiting_step s state.tables _ state.searches _ active (locks_of s (key_lock s number key mode));
    lock_row = λ s number key mode active at none. waiting_step s state.tables _ state.searches _ active (locks_of s (key_lock s number key mode));
    visit = λ s number column predicate active at. waiting_step s state.tables state.locks _ _ active
        (record { same_tables = refl; keep = λ by table key mode h. h; there = visit_is m state o s number column predicate at });
    scan = λ s number leaf active at. waiting_step s state.tables state.locks state.searches _ active (same_of s);
    step = λ s d q active at may. waiting_step s state.tables state.locks state.searches _ active (same_of s);
    stale = λ s d active at. waiting_step s state.tables state.locks state.searches _ active (same_of s);
    full = λ s active at. waiting_step s state.tables state.locks state.searches _ active (same_of s);
    place = λ s d q ds active at may. waiting_step s _ state.locks _ _ active (record {
      same_tables = definitions_changed d.table (table_after_place d state.entries q ds) state.tables (λ t. refl);
      keep = λ by table key mode h. h;
      there = placed_is (tree_for state d) d state.entries q ds state.searches;
    });
    row = λ s number change placed p active at may. waiting_step s _ state.locks state.searches _ active
        (changed_of s number (table_after_row p change placed change.new) (row_keeps p change placed change.new));
  }

pub waiting_kept : (m : Machine) (state : State) (actor : Actor) (choice : Choice) → IsProper m → InOrder m state → MayHappen m state actor choice
    → AreWaiting m (after m state actor choice).tables (after m state actor choice).locks (after m state actor choice).searches (after m state actor choice).sessions (after m state actor choice).waits
waiting_kept m state actor choice good o h =
    event_keeps m state good o (λ (st : State). AreWaiting m st.tables st.locks st.searches st.sessions st.waits) (waiting_each m state good o) actor choice h
