-- Whom one waits for isn't over, and waits have no cycle: so whoever follows waits comes to somebody who waits for nobody.
use Rattle.std.proofs.Common.{◌≡◌, ◌⊎◌, ◌∙◌, inl, inr, refl, sym, ap, subst, ℕ, zero, suc, ◌+◌, ◌≤◌, ◌<◌, ◌==◌, not, cond, Bool, true, false, List, [], ◌∷◌, arith, length, eqb-true, eq-eqb}
use Rattle.std.specs.Prelude.{IsTrue}
use Rattle.std.proofs.lemmas.Bool.{cases_lt, false≢true}
use Rattle.isp_base.specs.Lists.{Has, times}
use Rattle.isp_laws.proofs.ListLaws.{Has-times, no_longer, times-Has}
use Rattle.isp_reclock.specs.declared.entries.Lock.{Lock}
use Rattle.isp_reclock.specs.Tables.{is_lock}
use Rattle.isp_reclock.specs.Blockers.{lock_of}
use Rattle.isp_waits.specs.Graphs.{WaitsFor, has, waits_of}
use Rattle.isp_waits.specs.Cycles.{IsLeastCycle, Leads}
use Rattle.isp_waits.specs.Levels.{reaches, walk}
use Rattle.isp_waits.proofs.Members.{has-first}
use Rattle.isp_waits.proofs.Rounds.{least_cycle}
use Rattle.isp_waits.proofs.Walks.{way_reaches}
use Rattle.isp_forest.specs.Steps.{is_among}
use Rattle.isp_searches.proofs.SeesLaws.{among_has, has_among}
use Rattle.isp_events.specs.Sessions.{session_at}
use Rattle.isp_events.specs.State.{State, is_empty, is_waiting, session_numbers}
use Rattle.isp_events.specs.Ways.{Machine}
use Rattle.isp_events.specs.Runs.{is_over}
use Rattle.isp_order.specs.Locks.{Demand, for_entry, for_lock, HasNothing, StandsInTheWay}
use Rattle.isp_order.specs.InOrder.{InOrder}
use Rattle.isp_order.proofs.SessionLaws.{seated}
use Rattle.isp_event_laws.proofs.ListTests.{Passing, any_has}
use Rattle.isp_order_locks.proofs.LockLists.{lock_is}
use Rattle.isp_measure.proofs.SumLaws.{numbered}
use Rattle.isp_drain.specs.Ends.{SomebodyIsAwake}

-- ---- the first number that passes

record First (test : ℕ → Bool) : Type 0 where
  pub k : ℕ
  pub passes : test k ≡ true
  pub before : (j : ℕ) → j < k → test j ≡ false

first_or_none : (test : ℕ → Bool) (n : ℕ) → First test ⊎ ((j : ℕ) → j < n → test j ≡ false)
first_or_none test zero = inr (λ j lt. absurd (omega (arith, lt)))
first_or_none test (suc n) = by_less (first_or_none test n) (test n) refl
  where
    by_less : First test ⊎ ((j : ℕ) → j < n → test j ≡ false) → (b : Bool) → test n ≡ b → First test ⊎ ((j : ℕ) → j < suc n → test j ≡ false)
    by_less (inl f) b e = inl f
    by_less (inr none) true e = inl (record { k = n; passes = e; before = none })
    by_less (inr none) false e = inr (λ j lt. elim (cases_lt j n) [
      | inl below ↦ none j below
      | inr least ↦ (let is : j ≡ n = omega (arith, lt, least) in ap test is ∙ e)
    ])

first_passing : (test : ℕ → Bool) (n : ℕ) → test n ≡ true → First test
first_passing test n passes = elim (first_or_none test (suc n)) [
  | inl f ↦ f
  | inr none ↦ absurd (false≢true (sym (none n (omega arith)) ∙ passes))
]

module _ (m : Machine) (state : State) (o : InOrder m state) where
  -- ---- whom somebody waits for isn't over

  stands_not : (by : ℕ) (demand : Demand) → HasNothing state.locks state.searches state.sessions by → StandsInTheWay state.locks state.searches by demand → ⊥
  stands_not by (for_lock asked) nothing h =
      let p : Passing (is_lock (lock_of by asked h.mode)) state.locks = any_has (is_lock (lock_of by asked h.mode)) state.locks h.held in
      let own : p.x.trx ≡ by = sym (ap (λ (l : Lock). l.trx) (lock_is (lock_of by asked h.mode) p.x p.passes)) in
      false≢true (sym (nothing.no_lock p.x p.has) ∙ eq-eqb p.x.trx by own)
  stands_not by (for_entry table column box) nothing h = false≢true (sym (nothing.no_search h.search h.among) ∙ eq-eqb h.search.search.session by h.session)

  not_over : (s by : ℕ) → WaitsFor state.waits s by → (session_at state.sessions by).over ≡ false
  not_over s by w = by_over (session_at state.sessions by).over refl
    where
      by_over : (b : Bool) → (session_at state.sessions by).over ≡ b → b ≡ false
      by_over true e = (let rightly = o.waiting s by w in absurd (stands_not by rightly.demand (o.idle.nothing by (o.idle.over by e).0) rightly.stands))
      by_over false e = refl

  -- ---- no walk comes back

  no_round : (a : ℕ) (xs : List ℕ) → Leads state.waits a xs a → ⊥
  no_round a xs leads =
      let first : First (λ k. reaches state.waits a (suc k) a) = first_passing (λ k. reaches state.waits a (suc k) a) (length xs) (way_reaches state.waits a a xs leads) in
      let cycle : IsLeastCycle state.waits a (walk state.waits a (suc first.k) a) = least_cycle state.waits a first.k first.passes first.before (walk state.waits a (suc first.k) a) refl in
      o.no_cycle a (walk state.waits a (suc first.k) a) cycle.cycle (subst (λ (members : List ℕ). has members a ≡ true) (sym cycle.begins.1) (has-first a cycle.begins.0))

  -- ---- a trail of waits, the newest first

  abbrev Trail : ℕ → List ℕ → Type 0
  Trail a [] = Unit {0}
  Trail a (x ∷ rest) = WaitsFor state.waits x a × Trail x rest

  -- from each session on it waits lead on
  trail_leads : (a : ℕ) (trail : List ℕ) (by : ℕ) (xs : List ℕ) (z : ℕ) → Leads state.waits a xs z → Trail a trail → Has (a ∷ trail) by → (ys : List ℕ) × Leads state.waits by ys z
  trail_leads a trail by xs z leads t (inl e) = (xs, subst (λ k. Leads state.waits k xs z) e leads)
  trail_leads a [] by xs z leads t (inr h) = absurd h
  trail_leads a (x ∷ rest) by xs z leads t (inr h) = trail_leads x rest by (a ∷ xs) z (t.0, leads) t.1 h

  abbrev Awake : Type 0
  Awake = (k : ℕ) × (is_over state k ≡ false) × (is_waiting state.waits k ≡ false)

  some_by : (xs : List ℕ) → not (is_empty xs) ≡ true → (by : ℕ) × IsTrue (has xs by)
  some_by [] h = absurd (false≢true h)
  some_by (x ∷ xs) h = (x, has-first x xs)

  find_awake : (fuel a : ℕ) (trail : List ℕ) → 18 ≤ fuel + length (a ∷ trail) → ((q : ℕ) → times q (a ∷ trail) ≤ 1) → ((q : ℕ) → Has (a ∷ trail) q → Has session_numbers q) → Trail a trail
      → (session_at state.sessions a).over ≡ false → Awake
  find_awake zero a trail long once seats t alive =
      let short : length (a ∷ trail) ≤ length session_numbers = no_longer (a ∷ trail) session_numbers (λ q. by_times q (times q (a ∷ trail)) refl) in
      absurd (omega (arith, short, long))
    where
      by_times : (q n : ℕ) → times q (a ∷ trail) ≡ n → n ≤ times q session_numbers
      by_times q zero e = omega arith
      by_times q (suc n) e =
          let one : times q (a ∷ trail) ≤ 1 = once q in
          let some : 0 < times q session_numbers = times-Has q session_numbers (seats q (Has-times q (a ∷ trail) (omega (arith, e)))) in
          omega (arith, e, one, some)
  find_awake (suc fuel) a trail long once seats t alive = by_waits (is_waiting state.waits a) refl (λ by. find_awake fuel by (a ∷ trail))
    where
      by_waits : (b : Bool) → is_waiting state.waits a ≡ b
          → ((by : ℕ) → 18 ≤ fuel + length (by ∷ a ∷ trail) → ((q : ℕ) → times q (by ∷ a ∷ trail) ≤ 1) → ((q : ℕ) → Has (by ∷ a ∷ trail) q → Has session_numbers q) → Trail by (a ∷ trail)
          → (session_at state.sessions by).over ≡ false → Awake)
          → Awake
      by_waits false e again = (a, alive, e)
      by_waits true e again = by_known (some_by (waits_of state.waits a) e)
        where
          by_known : (by : ℕ) × WaitsFor state.waits a by → Awake
          by_known w = by_among (is_among (a ∷ trail) w.0) refl
            where
              alive_then : (session_at state.sessions w.0).over ≡ false
              alive_then = not_over a w.0 w.1

              place : Has session_numbers w.0
              place = (let seat : w.0 < length state.sessions = seated state.sessions w.0 alive_then in numbered w.0 (omega (arith, seat, o.counted.sessions)))

              seats_then : (q : ℕ) → Has (w.0 ∷ a ∷ trail) q → Has session_numbers q
              seats_then q (inl i) = subst (Has session_numbers) i place
              seats_then q (inr h) = seats q h

              once_then : is_among (a ∷ trail) w.0 ≡ false → (q : ℕ) → times q (w.0 ∷ a ∷ trail) ≤ 1
              once_then apart q = by_first (w.0 == q) refl
                where
                  by_first : (b : Bool) → (w.0 == q) ≡ b → cond b 1 0 + times q (a ∷ trail) ≤ 1
                  by_first false i = let one : times q (a ∷ trail) ≤ 1 = once q in omega (arith, one)
                  by_first true i = by_count (times q (a ∷ trail)) refl
                    where
                      by_count : (n : ℕ) → times q (a ∷ trail) ≡ n → 1 + times q (a ∷ trail) ≤ 1
                      by_count zero j = omega (arith, j)
                      by_count (suc n) j =
                          let there : Has (a ∷ trail) q = Has-times q (a ∷ trail) (omega (arith, j)) in
                          absurd (false≢true (sym apart ∙ has_among (a ∷ trail) w.0 (subst (Has (a ∷ trail)) (sym (eqb-true w.0 q i)) there)))

              by_among : (b : Bool) → is_among (a ∷ trail) w.0 ≡ b → Awake
              by_among true i = (let r = trail_leads a trail w.0 [] w.0 w.1 t (among_has (a ∷ trail) w.0 i) in absurd (no_round w.0 r.0 r.1))
              by_among false i = again w.0 (omega (arith, long)) (once_then i) seats_then (w.1, t) alive_then

pub somebody_is_awake : SomebodyIsAwake
somebody_is_awake m state s o alive =
    find_awake m state o 17 s [] (omega arith) (λ q. one (s == q)) seats tt alive
  where
    one : (b : Bool) → cond b 1 0 + 0 ≤ 1
    one true = omega arith
    one false = omega arith

    seats : (q : ℕ) → Has (s ∷ []) q → Has session_numbers q
    seats q (inl e) = (let seat : s < length state.sessions = seated state.sessions s alive in subst (Has session_numbers) e (numbered s (omega (arith, seat, o.counted.sessions))))
    seats q (inr h) = absurd h
