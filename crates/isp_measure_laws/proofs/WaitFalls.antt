-- Who is refused waits, or a session becomes a victim.
use Rattle.std.proofs.Common.{◌≡◌, ◌⊎◌, ◌∙◌, inl, inr, refl, sym, ap, subst, ℕ, ◌≤◌, ◌<◌, ◌==◌, ◌||◌, not, cond, Bool, true, false, Option, Some, None, List, [], ◌∷◌, arith, length, eqb-true}
use Rattle.std.specs.Prelude.{IsTrue, is_some, slice_set}
use Rattle.std.specs.Option.{option_and_then}
use Rattle.std.proofs.lemmas.Bool.{false≢true}
use Rattle.std.proofs.lemmas.List.{get_or-set_same}
use Rattle.isp_waits.specs.Graphs.{WaitsFor, has}
use Rattle.isp_serial.specs.Script.{text_at}
use Rattle.isp_events.specs.Stored.{StoredTable}
use Rattle.isp_events.specs.Sessions.{Failure, SessionState, Work, session_at}
use Rattle.isp_events.specs.State.{State, is_empty, session_numbers}
use Rattle.isp_events.specs.Ways.{Machine}
use Rattle.isp_events.specs.Deadlocks.{Deadlock, MayWait, after_refusal, as_victim, with_victims}
use Rattle.isp_order.specs.Locks.{Demand, demand_of, demand_of_phase, demand_of_statement, demand_unfailed}
use Rattle.isp_order.specs.InOrder.{InOrder}
use Rattle.isp_order.proofs.SessionLaws.{same_at, seated, victims_keep}
use Rattle.isp_order_locks.proofs.WaitGraphs.{Waiting, member_waits, nobody, waits_other}
use Rattle.isp_order_work.proofs.WorkParts.{none_some, victims_each}
use Rattle.isp_causes.specs.Causes.{IsActive}
use Rattle.isp_fits.proofs.VictimLaws.{Asks, victims_ask}
use Rattle.isp_measure.specs.Measure.{answers_left, gives_up, has_failed, measure, one_if_awake, one_if_onward}
use Rattle.isp_measure.proofs.OrderLaws.{Falls, here, later}
use Rattle.isp_measure.proofs.SumLaws.{numbered, same, total_less, total_no_more}
use Rattle.isp_measure_laws.proofs.AnswerFalls.{IsText, owes_no_more, text_is}

-- who asks for something undoes nothing
asks_onward : (m : Machine) (tables : List StoredTable) (k : ℕ) (session : SessionState) (demand : Demand) → demand_of m tables k session ≡ Some demand → gives_up session ≡ false
asks_onward m tables k session demand h = by_victim session.victim refl h
  where
    by_failure : (work : Work) → session.work ≡ Some work → (f : Option Failure) → work.failure ≡ f → demand_unfailed f (demand_of_phase k work work.phase) ≡ Some demand → has_failed session.work ≡ false
    by_failure work e (Some failure) is i = absurd (none_some demand i)
    by_failure work e None is i = ap has_failed e ∙ ap (λ (f : Option Failure). is_some f) is

    by_work : (text : List ℕ) (w : Option Work) → session.work ≡ w → demand_of_statement m tables k session text w ≡ Some demand → has_failed session.work ≡ false
    by_work text None e i = ap has_failed e
    by_work text (Some work) e i = by_failure work e work.failure refl i

    by_text : (t : Option (List ℕ)) → option_and_then (λ text. demand_of_statement m tables k session text session.work) t ≡ Some demand → has_failed session.work ≡ false
    by_text None i = absurd (none_some demand i)
    by_text (Some text) i = by_work text session.work refl i

    by_victim : (b : Bool) → session.victim ≡ b → cond b None (option_and_then (λ text. demand_of_statement m tables k session text session.work) (text_at m.script k session.number)) ≡ Some demand → gives_up session ≡ false
    by_victim true e i = absurd (none_some demand i)
    by_victim false e i = ap (λ b. b || has_failed session.work) e ∙ by_text (text_at m.script k session.number) i

not_empty : (xs : List ℕ) → is_empty xs ≡ false → xs ≡ [] → ⊥
not_empty xs some none = false≢true (sym some ∙ ap is_empty none)

module _ (m : Machine) (state : State) (o : InOrder m state) (s : ℕ) (active : IsActive state s) (on : List ℕ)
    (goes_on : gives_up (session_at state.sessions s) ≡ false) (asks : Asks m state s) where
  -- whoever waits then undoes nothing, and is one of the sessions
  record Stands (k : ℕ) : Type 0 where
    pub onward : gives_up (session_at state.sessions k) ≡ false
    pub not_over : (session_at state.sessions k).over ≡ false

  waiting : (k : ℕ) → Waiting (slice_set state.waits s on) k → Stands k
  waiting k w = by_test (k == s) refl
    where
      not_true : (b : Bool) → (b ≡ true → ⊥) → b ≡ false
      not_true true f = absurd (f refl)
      not_true false f = refl

      by_test : (b : Bool) → (k == s) ≡ b → Stands k
      by_test true e = subst Stands (sym (eqb-true k s e)) (record { onward = goes_on; not_over = active.not_over })
      by_test false e =
          let edge : WaitsFor state.waits k w.for = subst (λ list. IsTrue (has list w.for)) (waits_other state.waits s k on e) w.edge in
          let rightly = o.waiting k w.for edge in
          record {
            onward = asks_onward m state.tables k (session_at state.sessions k) rightly.demand rightly.asks;
            not_over = not_true (session_at state.sessions k).over (λ over. nobody state.waits k w.for (o.idle.over k over).1 edge);
          }

  waits : (d : Deadlock) (ds : List Deadlock) → MayWait state s on (d ∷ ds) → Stands d.victim
  waits d ds may = waiting d.victim (member_waits (slice_set state.waits s on) d.members d.victim may.0.cycle may.1.member)

  -- nobody owes more
  answers_each : (ds : List Deadlock) → MayWait state s on ds → (k : ℕ)
      → answers_left m.script k (session_at (with_victims state.sessions ds) k) ≤ answers_left m.script k (session_at state.sessions k)
  answers_each ds may k =
      owes_no_more m.script k (session_at state.sessions k) (session_at (with_victims state.sessions ds) k)
      (victims_keep (λ (x : SessionState). x.over) (λ x. refl) state.sessions ds k) (victims_keep (λ (x : SessionState). x.number) (λ x. refl) state.sessions ds k)
      (λ is. by_case (victims_ask m state o s on ds may asks k is))
    where
      by_case : ((session_at state.sessions k).victim ≡ true) ⊎ ((text : List ℕ) × (text_at m.script k (session_at state.sessions k).number ≡ Some text))
          → ((session_at state.sessions k).victim ≡ true) ⊎ IsText m.script k (session_at state.sessions k).number
      by_case (inl is) = inl is
      by_case (inr t) = inr (text_is m.script k (session_at state.sessions k).number t.0 t.1)

  onward_each : (ds : List Deadlock) (k : ℕ) → one_if_onward k (session_at (with_victims state.sessions ds) k) ≤ one_if_onward k (session_at state.sessions k)
  onward_each ds k = victims_each (λ j x. one_if_onward j x ≤ one_if_onward j (session_at state.sessions j)) (λ j x h. omega arith) state.sessions ds (λ j. same (one_if_onward j (session_at state.sessions j))) k

  -- the first victim is one then
  first_victim : (d : Deadlock) (ds : List Deadlock) → d.victim < length state.sessions → (session_at (with_victims state.sessions (d ∷ ds)) d.victim).victim ≡ true
  first_victim d ds seat =
      victims_each (λ k x. k ≡ d.victim → x.victim ≡ true) (λ k x h e. refl) (slice_set state.sessions d.victim (as_victim (session_at state.sessions d.victim))) ds
      (λ k e. ap (λ i. (session_at (slice_set state.sessions d.victim (as_victim (session_at state.sessions d.victim))) i).victim) e
      ∙ ap (λ (x : SessionState). x.victim) (same_at state.sessions d.victim (as_victim (session_at state.sessions d.victim)) seat)) d.victim refl

  awake_each : s < length state.waits → is_empty on ≡ false → (k : ℕ) → one_if_awake (slice_set state.waits s on) k ≤ one_if_awake state.waits k
  awake_each seat some k = by_test (k == s) refl
    where
      by_test : (b : Bool) → (k == s) ≡ b → one_if_awake (slice_set state.waits s on) k ≤ one_if_awake state.waits k
      by_test true e =
          let asleep : one_if_awake (slice_set state.waits s on) k ≡ 0 =
          ap (one_if_awake (slice_set state.waits s on)) (eqb-true k s e) ∙ ap (λ (xs : List ℕ). cond (not (is_empty xs)) 0 1) (get_or-set_same state.waits s on [] seat) ∙ ap (λ b. cond (not b) 0 1) some in
          omega (arith, asleep)
      by_test false e =
          let is : one_if_awake (slice_set state.waits s on) k ≡ one_if_awake state.waits k = ap (λ (xs : List ℕ). cond (not (is_empty xs)) 0 1) (waits_other state.waits s k on e) in
          omega (arith, is)

  pub refusal_falls : (ds : List Deadlock) → is_empty on ≡ false → MayWait state s on ds → Falls (measure m.script (after_refusal state s on ds)) (measure m.script state)
  refusal_falls [] some may =
      later _ _ _ _ (same _) (later _ _ _ _ (same _) (later _ _ _ _ (same _) (later _ _ _ _ (same _) (later _ _ _ _ (same _) (later _ _ _ _ (same _)
      (here _ _ _ _ (total_less (one_if_awake (slice_set state.waits s on)) (one_if_awake state.waits) session_numbers s (λ k h. awake_each seat some k) (numbered s (omega (arith, place, o.counted.sessions))) less)))))))
    where
      place : s < length state.sessions
      place = seated state.sessions s active.not_over

      seat : s < length state.waits
      seat = omega (arith, place, o.counted.sessions, o.counted.waits)

      less : one_if_awake (slice_set state.waits s on) s < one_if_awake state.waits s
      less =
          let asleep : one_if_awake (slice_set state.waits s on) s ≡ 0 =
          ap (λ (xs : List ℕ). cond (not (is_empty xs)) 0 1) (get_or-set_same state.waits s on [] seat) ∙ ap (λ b. cond (not b) 0 1) some in
          let awake : one_if_awake state.waits s ≡ 1 = ap (λ (xs : List ℕ). cond (not (is_empty xs)) 0 1) active.awake in
          omega (arith, asleep, awake)
  refusal_falls (d ∷ ds) some may =
      later _ _ _ _ (total_no_more (λ k. answers_left m.script k (session_at (with_victims state.sessions (d ∷ ds)) k)) (λ k. answers_left m.script k (session_at state.sessions k)) session_numbers (λ k h. answers_each (d ∷ ds) may k))
      (later _ _ _ _ (same _)
      (here _ _ _ _ (total_less (λ k. one_if_onward k (session_at (with_victims state.sessions (d ∷ ds)) k)) (λ k. one_if_onward k (session_at state.sessions k)) session_numbers d.victim
      (λ k h. onward_each (d ∷ ds) k) (numbered d.victim (omega (arith, place, o.counted.sessions))) less)))
    where
      stands : Stands d.victim
      stands = waits d ds may

      place : d.victim < length state.sessions
      place = seated state.sessions d.victim stands.not_over

      less : one_if_onward d.victim (session_at (with_victims state.sessions (d ∷ ds)) d.victim) < one_if_onward d.victim (session_at state.sessions d.victim)
      less =
          let now : one_if_onward d.victim (session_at (with_victims state.sessions (d ∷ ds)) d.victim) ≡ 0 =
          ap (λ b. cond (b || has_failed (session_at (with_victims state.sessions (d ∷ ds)) d.victim).work) 0 1) (first_victim d ds place) in
          let before : one_if_onward d.victim (session_at state.sessions d.victim) ≡ 1 = ap (λ b. cond b 0 1) stands.onward in
          omega (arith, now, before)
