-- A victim has the text that it waited in.
use Rattle.std.proofs.Common.{◌≡◌, ◌⊎◌, ◌∙◌, inl, inr, refl, sym, ap, subst, ℕ, ◌==◌, ◌||◌, Bool, true, false, cond, Option, Some, None, List, [], ◌∷◌, eqb-true}
use Rattle.std.specs.Prelude.{IsTrue, MatchBool, nat_eq, slice_set}
use Rattle.std.specs.Option.{option_and_then}
use Rattle.std.proofs.lemmas.Bool.{false≢true, or_cases}
use Rattle.isp_waits.specs.Graphs.{WaitsFor, has, waits_of}
use Rattle.isp_waits.specs.Cycles.{IsCycle, Leads}
use Rattle.isp_serial.specs.Script.{text_at}
use Rattle.isp_events.specs.Stored.{StoredTable}
use Rattle.isp_events.specs.Sessions.{SessionState, session_at}
use Rattle.isp_events.specs.State.{State}
use Rattle.isp_events.specs.Ways.{Machine}
use Rattle.isp_events.specs.Deadlocks.{AreDeadlocks, Deadlock, MayWait, as_victim, with_victims}
use Rattle.isp_order.specs.Locks.{Demand, demand_of, demand_of_statement}
use Rattle.isp_order.specs.InOrder.{InOrder}
use Rattle.isp_order.proofs.SessionLaws.{other_at}
use Rattle.isp_order_locks.proofs.WaitGraphs.{waits_other}

none_some : {X : Type 0} (x : X) → None ≡ Some x → ⊥
none_some x h = cc

abbrev pub Asks : Machine → State → ℕ → Type 0
Asks m state k = (text : List ℕ) × (text_at m.script k (session_at state.sessions k).number ≡ Some text)

pub demand_text : (m : Machine) (tables : List StoredTable) (k : ℕ) (session : SessionState) (demand : Demand) → demand_of m tables k session ≡ Some demand
    → (text : List ℕ) × (text_at m.script k session.number ≡ Some text)
demand_text m tables k session demand h = by_text (text_at m.script k session.number) refl h
  where
    none_either : (b : Bool) → cond b None None ≡ Some demand → ⊥
    none_either true e = none_some demand e
    none_either false e = none_some demand e

    by_text : (o : Option (List ℕ)) → text_at m.script k session.number ≡ o
        → cond session.victim None (option_and_then (λ text. demand_of_statement m tables k session text session.work) o) ≡ Some demand
        → (text : List ℕ) × (text_at m.script k session.number ≡ Some text)
    by_text None e k' = absurd (none_either session.victim k')
    by_text (Some text) e k' = (text, e)

-- each member of a cycle waits for somebody
edge : (waits : List (List ℕ)) (a : ℕ) (xs : List ℕ) (z v : ℕ) → Leads waits a xs z → IsTrue (has (a ∷ xs) v) → (by : ℕ) × WaitsFor waits v by
edge waits a [] z v h member = elim (or_cases (nat_eq v a) false member) [
  | inl e ↦ (z, subst (λ i. WaitsFor waits i z) (sym (eqb-true v a e)) h)
  | inr f ↦ absurd (false≢true f)
]
edge waits a (x ∷ xs) z v h member = elim (or_cases (nat_eq v a) (has (x ∷ xs) v) member) [
  | inl e ↦ (x, subst (λ i. WaitsFor waits i x) (sym (eqb-true v a e)) h.0)
  | inr k ↦ edge waits x xs z v h.1 k
]

cycle_edge : (waits : List (List ℕ)) (members : List ℕ) (v : ℕ) → IsCycle waits members → IsTrue (has members v) → (by : ℕ) × WaitsFor waits v by
cycle_edge waits [] v h member = absurd h
cycle_edge waits (a ∷ xs) v h member = edge waits a xs a v h.0 member

module _ (m : Machine) (state : State) (o : InOrder m state) where
  -- it was a victim, or has a text
  abbrev pub WasOr : ℕ → Type 0
  WasOr k = ((session_at state.sessions k).victim ≡ true) ⊎ Asks m state k

  all_ask : (waits : List (List ℕ)) (undo : List ℕ) (asker : ℕ) (ds : List Deadlock) (sessions : List SessionState) → AreDeadlocks waits undo asker ds
      → ((k by : ℕ) → WaitsFor waits k by → Asks m state k) → ((k : ℕ) → (session_at sessions k).victim ≡ true → WasOr k)
      → (k : ℕ) → (session_at (with_victims sessions ds) k).victim ≡ true → WasOr k
  all_ask waits undo asker [] sessions h each victims k is = victims k is
  all_ask waits undo asker (d ∷ ds) sessions h each victims k is =
      by_last (d.victim == asker) h.2
      (λ more. all_ask (slice_set waits d.victim []) undo asker ds (slice_set sessions d.victim (as_victim (session_at sessions d.victim))) more left then k is)
    where
      here : Asks m state d.victim
      here = (let e = cycle_edge waits d.members d.victim h.0.cycle h.1.member in each d.victim e.0 e.1)

      then : (j : ℕ) → (session_at (slice_set sessions d.victim (as_victim (session_at sessions d.victim))) j).victim ≡ true → WasOr j
      then j i = by_test (j == d.victim) refl
        where
          by_test : (b : Bool) → (j == d.victim) ≡ b → WasOr j
          by_test true e = inr (subst (Asks m state) (sym (eqb-true j d.victim e)) here)
          by_test false e = victims j (sym (ap (λ (x : SessionState). x.victim) (other_at sessions d.victim j (as_victim (session_at sessions d.victim)) e)) ∙ i)

      left : (j by : ℕ) → WaitsFor (slice_set waits d.victim []) j by → Asks m state j
      left j by w = by_test (j == d.victim) refl
        where
          by_test : (b : Bool) → (j == d.victim) ≡ b → Asks m state j
          by_test true e = subst (Asks m state) (sym (eqb-true j d.victim e)) here
          by_test false e = each j by (subst (λ list. IsTrue (has list by)) (waits_other waits d.victim j [] e) w)

      by_last : (b : Bool) → MatchBool b (ds ≡ []) (AreDeadlocks (slice_set waits d.victim []) undo asker ds)
          → (AreDeadlocks (slice_set waits d.victim []) undo asker ds → WasOr k) → WasOr k
      by_last true none again = then k (subst (λ xs. (session_at (with_victims (slice_set sessions d.victim (as_victim (session_at sessions d.victim))) xs) k).victim ≡ true) none is)
      by_last false more again = again more

  -- whoever is a victim behind a refusal was one, or has the text that it waited in
  pub victims_ask : (s : ℕ) (on : List ℕ) (ds : List Deadlock) → MayWait state s on ds → Asks m state s
      → (k : ℕ) → (session_at (with_victims state.sessions ds) k).victim ≡ true → ((session_at state.sessions k).victim ≡ true) ⊎ Asks m state k
  victims_ask s on ds may asks k is =
      all_ask (slice_set state.waits s on) _ s ds state.sessions may each (λ j h. inl h) k is
    where
      each : (j by : ℕ) → WaitsFor (slice_set state.waits s on) j by → Asks m state j
      each j by w = by_test (j == s) refl
        where
          by_test : (b : Bool) → (j == s) ≡ b → Asks m state j
          by_test true e = subst (Asks m state) (sym (eqb-true j s e)) asks
          by_test false e =
              let r = o.waiting j by (subst (λ list. IsTrue (has list by)) (waits_other state.waits s j on e) w) in
              demand_text m state.tables j (session_at state.sessions j) r.demand r.asks
