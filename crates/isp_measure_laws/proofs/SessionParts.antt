-- What the measure counts of one session, where it is at work, and where it alone changes.
use Rattle.std.proofs.Common.{◌≡◌, ◌⊎◌, ◌∙◌, inl, inr, refl, ap, ℕ, ◌≤◌, ◌<◌, ◌==◌, ◌||◌, cond, Bool, true, false, Option, Some, None, List, arith, length}
use Rattle.std.specs.Prelude.{is_some, slice_set}
use Rattle.std.specs.List.{list_any}
use Rattle.isp_events.specs.Stored.{StoredTable, indexed, table_at}
use Rattle.isp_events.specs.Sessions.{Failure, Phase, SessionState, Work, session_at}
use Rattle.isp_events.specs.State.{State, TreeSearch}
use Rattle.isp_events.specs.Ways.{Machine}
use Rattle.isp_events.specs.Reading.{is_of}
use Rattle.isp_order.specs.InOrder.{InOrder}
use Rattle.isp_causes.specs.Causes.{GoesOn, IsActive}
use Rattle.isp_measure.specs.Measure.{answers_left, down_of_phase, gives_up, has_failed, leaves_left, leaves_of_phase, leaves_of_work, down_of_work, measure, one_if_onward, pages_of_path, phases_behind, phases_left, phases_of_work, steps_left, steps_of_phase, steps_of_work, total_of_sessions}
use Rattle.isp_measure.proofs.OrderLaws.{Falls, here, later}
use Rattle.isp_measure.proofs.SumLaws.{equal, same, sessions_less, sessions_no_more}

abbrev pub columns_of : List StoredTable → ℕ → ℕ
columns_of tables number = length (indexed (table_at tables number))

-- ---- a session at work

pub not_giving_up : (x : SessionState) (work : Work) → x.victim ≡ false → x.work ≡ Some work → work.failure ≡ None → gives_up x ≡ false
not_giving_up x work undisturbed at_work unfailed =
    ap (λ b. b || has_failed x.work) undisturbed ∙ ap has_failed at_work ∙ ap (λ (f : Option Failure). is_some f) unfailed

pub giving_up : (x : SessionState) (work : Work) (failure : Failure) → x.work ≡ Some work → work.failure ≡ Some failure → gives_up x ≡ true
giving_up x work failure at_work failed =
    ap (λ w. x.victim || has_failed w) at_work ∙ ap (λ (f : Option Failure). x.victim || is_some f) failed ∙ or_true x.victim
  where
    or_true : (b : Bool) → (b || true) ≡ true
    or_true true = refl
    or_true false = refl

pub phases_at : (searches : List TreeSearch) (s : ℕ) (x : SessionState) (work : Work) → x.work ≡ Some work
    → phases_left searches s x ≡ phases_behind (list_any (is_of s x.number) searches) work.phase
phases_at searches s x work at_work = ap (phases_of_work (list_any (is_of s x.number) searches)) at_work

pub steps_at : (tables : List StoredTable) (s : ℕ) (x : SessionState) (work : Work) → gives_up x ≡ false → x.work ≡ Some work
    → steps_left tables s x ≡ steps_of_phase (columns_of tables work.table) work.phase
steps_at tables s x work onward at_work =
    ap (λ b. cond b (length x.undo) (steps_of_work tables x.undo x.work)) onward ∙ ap (steps_of_work tables x.undo) at_work

pub leaves_at : (tables : List StoredTable) (s : ℕ) (x : SessionState) (work : Work) → x.work ≡ Some work
    → leaves_left tables s x ≡ leaves_of_phase (table_at tables work.table).leaves work.phase
leaves_at tables s x work at_work = ap (leaves_of_work tables) at_work

pub path_at : (tables : List StoredTable) (s : ℕ) (x : SessionState) (work : Work) → x.work ≡ Some work
    → pages_of_path tables s x ≡ down_of_phase (table_at tables work.table) work.phase
path_at tables s x work at_work = ap (down_of_work tables) at_work

-- ---- one session changes

-- tables with the same trees' columns
abbrev pub SameColumns : List StoredTable → List StoredTable → Type 0
SameColumns tables after = (n : ℕ) → indexed (table_at after n) ≡ indexed (table_at tables n)

-- a session has begun its searches as before
abbrev pub SameBegun : List TreeSearch → List TreeSearch → ℕ → Type 0
SameBegun searches after k = (number : ℕ) → list_any (is_of k number) after ≡ list_any (is_of k number) searches

abbrev pub moved : State → List StoredTable → List TreeSearch → List SessionState → State
moved state tables searches sessions = record state { tables = tables; searches = searches; sessions = sessions }

-- the statement comes to a later phase, or has less left in this one
abbrev pub HasLess : Bool → Bool → ℕ → Phase → Phase → Type 0
HasLess before after columns phase now =
    (phases_behind after now < phases_behind before phase)
    ⊎ ((phases_behind after now ≤ phases_behind before phase) × (steps_of_phase columns now < steps_of_phase columns phase))

module _ (m : Machine) (state : State) (o : InOrder m state) (s : ℕ) (active : IsActive state s) (new : SessionState) where
  pub answers_sum : answers_left m.script s new ≡ answers_left m.script s (session_at state.sessions s)
      → total_of_sessions (answers_left m.script) (slice_set state.sessions s new) ≤ total_of_sessions (answers_left m.script) state.sessions
  answers_sum own =
      sessions_no_more state.sessions s new active.not_over (answers_left m.script) (answers_left m.script) (λ k ne. same (answers_left m.script k (session_at state.sessions k)))
      (equal (answers_left m.script s new) (answers_left m.script s (session_at state.sessions s)) own)

  pub onward_sum : one_if_onward s new ≤ one_if_onward s (session_at state.sessions s)
      → total_of_sessions one_if_onward (slice_set state.sessions s new) ≤ total_of_sessions one_if_onward state.sessions
  onward_sum own = sessions_no_more state.sessions s new active.not_over one_if_onward one_if_onward (λ k ne. same (one_if_onward k (session_at state.sessions k))) own

  pub onward_less : one_if_onward s new < one_if_onward s (session_at state.sessions s)
      → total_of_sessions one_if_onward (slice_set state.sessions s new) < total_of_sessions one_if_onward state.sessions
  onward_less own =
      sessions_less state.sessions s new active.not_over one_if_onward one_if_onward (λ k ne. same (one_if_onward k (session_at state.sessions k))) o.counted.sessions own

  phases_others : (searches : List TreeSearch) → ((k : ℕ) → (k == s) ≡ false → SameBegun state.searches searches k)
      → (k : ℕ) → (k == s) ≡ false → phases_left searches k (session_at state.sessions k) ≤ phases_left state.searches k (session_at state.sessions k)
  phases_others searches begun k ne =
      equal (phases_left searches k (session_at state.sessions k)) (phases_left state.searches k (session_at state.sessions k))
      (ap (λ b. phases_of_work b (session_at state.sessions k).work) (begun k ne (session_at state.sessions k).number))

  pub phases_sum : (searches : List TreeSearch) → ((k : ℕ) → (k == s) ≡ false → SameBegun state.searches searches k)
      → phases_left searches s new ≤ phases_left state.searches s (session_at state.sessions s)
      → total_of_sessions (phases_left searches) (slice_set state.sessions s new) ≤ total_of_sessions (phases_left state.searches) state.sessions
  phases_sum searches begun own = sessions_no_more state.sessions s new active.not_over (phases_left searches) (phases_left state.searches) (phases_others searches begun) own

  pub phases_less : (searches : List TreeSearch) → ((k : ℕ) → (k == s) ≡ false → SameBegun state.searches searches k)
      → phases_left searches s new < phases_left state.searches s (session_at state.sessions s)
      → total_of_sessions (phases_left searches) (slice_set state.sessions s new) < total_of_sessions (phases_left state.searches) state.sessions
  phases_less searches begun own =
      sessions_less state.sessions s new active.not_over (phases_left searches) (phases_left state.searches) (phases_others searches begun) o.counted.sessions own

  steps_others : (tables : List StoredTable) → SameColumns state.tables tables
      → (k : ℕ) → (k == s) ≡ false → steps_left tables k (session_at state.sessions k) ≤ steps_left state.tables k (session_at state.sessions k)
  steps_others tables columns k ne =
      equal (steps_left tables k (session_at state.sessions k)) (steps_left state.tables k (session_at state.sessions k))
      (ap (λ n. cond (gives_up (session_at state.sessions k)) (length (session_at state.sessions k).undo) n) (by_work (session_at state.sessions k).work))
    where
      by_work : (w : Option Work) → steps_of_work tables (session_at state.sessions k).undo w ≡ steps_of_work state.tables (session_at state.sessions k).undo w
      by_work None = refl
      by_work (Some w) = ap (λ (cs : List ℕ). steps_of_phase (length cs) w.phase) (columns w.table)

  pub steps_sum : (tables : List StoredTable) → SameColumns state.tables tables → steps_left tables s new ≤ steps_left state.tables s (session_at state.sessions s)
      → total_of_sessions (steps_left tables) (slice_set state.sessions s new) ≤ total_of_sessions (steps_left state.tables) state.sessions
  steps_sum tables columns own = sessions_no_more state.sessions s new active.not_over (steps_left tables) (steps_left state.tables) (steps_others tables columns) own

  pub steps_less : (tables : List StoredTable) → SameColumns state.tables tables → steps_left tables s new < steps_left state.tables s (session_at state.sessions s)
      → total_of_sessions (steps_left tables) (slice_set state.sessions s new) < total_of_sessions (steps_left state.tables) state.sessions
  steps_less tables columns own =
      sessions_less state.sessions s new active.not_over (steps_left tables) (steps_left state.tables) (steps_others tables columns) o.counted.sessions own

  pub leaves_sum : leaves_left state.tables s new ≤ leaves_left state.tables s (session_at state.sessions s)
      → total_of_sessions (leaves_left state.tables) (slice_set state.sessions s new) ≤ total_of_sessions (leaves_left state.tables) state.sessions
  leaves_sum own =
      sessions_no_more state.sessions s new active.not_over (leaves_left state.tables) (leaves_left state.tables) (λ k ne. same (leaves_left state.tables k (session_at state.sessions k))) own

  pub leaves_less : leaves_left state.tables s new < leaves_left state.tables s (session_at state.sessions s)
      → total_of_sessions (leaves_left state.tables) (slice_set state.sessions s new) < total_of_sessions (leaves_left state.tables) state.sessions
  leaves_less own =
      sessions_less state.sessions s new active.not_over (leaves_left state.tables) (leaves_left state.tables) (λ k ne. same (leaves_left state.tables k (session_at state.sessions k)))
      o.counted.sessions own

  pub path_sum : pages_of_path state.tables s new ≤ pages_of_path state.tables s (session_at state.sessions s)
      → total_of_sessions (pages_of_path state.tables) (slice_set state.sessions s new) ≤ total_of_sessions (pages_of_path state.tables) state.sessions
  path_sum own =
      sessions_no_more state.sessions s new active.not_over (pages_of_path state.tables) (pages_of_path state.tables) (λ k ne. same (pages_of_path state.tables k (session_at state.sessions k))) own

  pub path_less : pages_of_path state.tables s new < pages_of_path state.tables s (session_at state.sessions s)
      → total_of_sessions (pages_of_path state.tables) (slice_set state.sessions s new) < total_of_sessions (pages_of_path state.tables) state.sessions
  path_less own =
      sessions_less state.sessions s new active.not_over (pages_of_path state.tables) (pages_of_path state.tables) (λ k ne. same (pages_of_path state.tables k (session_at state.sessions k)))
      o.counted.sessions own

  -- the session works on: its statement fails, or has less left
  module _ (tables : List StoredTable) (searches : List TreeSearch) (work now : Work) (at : GoesOn (session_at state.sessions s) work)
      (own : answers_left m.script s new ≡ answers_left m.script s (session_at state.sessions s)) (undisturbed : new.victim ≡ false) (at_work : new.work ≡ Some now) where
    before_onward : one_if_onward s (session_at state.sessions s) ≡ 1
    before_onward = ap (λ b. cond b 0 1) (not_giving_up (session_at state.sessions s) work at.undisturbed at.at_work at.unfailed)

    pub fails : (failure : Failure) → now.failure ≡ Some failure → Falls (measure m.script (moved state tables searches (slice_set state.sessions s new))) (measure m.script state)
    fails failure failed =
        let less : one_if_onward s new ≡ 0 = ap (λ b. cond b 0 1) (giving_up new now failure at_work failed) in
        later _ _ _ _ (answers_sum own) (later _ _ _ _ (same (length state.queue)) (here _ _ _ _ (onward_less (omega (arith, less, before_onward)))))

    pub onward_still : one_if_onward s new ≤ one_if_onward s (session_at state.sessions s)
    onward_still = by_test (gives_up new)
      where
        by_test : (b : Bool) → cond b 0 1 ≤ one_if_onward s (session_at state.sessions s)
        by_test true = omega arith
        by_test false = omega (arith, before_onward)

    pub has_less : SameColumns state.tables tables → ((k : ℕ) → (k == s) ≡ false → SameBegun state.searches searches k) → new.number ≡ (session_at state.sessions s).number → now.table ≡ work.table
        → now.failure ≡ None
        → HasLess (list_any (is_of s (session_at state.sessions s).number) state.searches) (list_any (is_of s (session_at state.sessions s).number) searches) (columns_of state.tables work.table) work.phase now.phase
        → Falls (measure m.script (moved state tables searches (slice_set state.sessions s new))) (measure m.script state)
    has_less columns begun number table unfailed less = by_less less
      where
        before : phases_left state.searches s (session_at state.sessions s) ≡ phases_behind (list_any (is_of s (session_at state.sessions s).number) state.searches) work.phase
        before = phases_at state.searches s (session_at state.sessions s) work at.at_work

        after : phases_left searches s new ≡ phases_behind (list_any (is_of s (session_at state.sessions s).number) searches) now.phase
        after = phases_at searches s new now at_work ∙ ap (λ n. phases_behind (list_any (is_of s n) searches) now.phase) number

        steps_before : steps_left state.tables s (session_at state.sessions s) ≡ steps_of_phase (columns_of state.tables work.table) work.phase
        steps_before =
            steps_at state.tables s (session_at state.sessions s) work (not_giving_up (session_at state.sessions s) work at.undisturbed at.at_work at.unfailed) at.at_work

        steps_after : steps_left tables s new ≡ steps_of_phase (columns_of state.tables work.table) now.phase
        steps_after =
            steps_at tables s new now (not_giving_up new now undisturbed at_work unfailed) at_work
            ∙ ap (λ (cs : List ℕ). steps_of_phase (length cs) now.phase) (columns now.table)
            ∙ ap (λ n. steps_of_phase (columns_of state.tables n) now.phase) table

        by_less : HasLess (list_any (is_of s (session_at state.sessions s).number) state.searches) (list_any (is_of s (session_at state.sessions s).number) searches) (columns_of state.tables work.table) work.phase now.phase
            → Falls (measure m.script (moved state tables searches (slice_set state.sessions s new))) (measure m.script state)
        by_less (inl lt) =
            later _ _ _ _ (answers_sum own) (later _ _ _ _ (same (length state.queue)) (later _ _ _ _ (onward_sum onward_still)
            (here _ _ _ _ (phases_less searches begun (omega (arith, lt, before, after))))))
        by_less (inr l) =
            let le : phases_behind (list_any (is_of s (session_at state.sessions s).number) searches) now.phase ≤ phases_behind (list_any (is_of s (session_at state.sessions s).number) state.searches) work.phase = l.0 in
            let lt : steps_of_phase (columns_of state.tables work.table) now.phase < steps_of_phase (columns_of state.tables work.table) work.phase = l.1 in
            later _ _ _ _ (answers_sum own) (later _ _ _ _ (same (length state.queue)) (later _ _ _ _ (onward_sum onward_still)
            (later _ _ _ _ (phases_sum searches begun (omega (arith, le, before, after))) (here _ _ _ _ (steps_less tables columns (omega (arith, lt, steps_before, steps_after)))))))
