-- Who is refused waits for some sessions, and of the deadlocks that come of it the victims alone matter, which differ.
use Rattle.std.proofs.Common.{◌≡◌, ◌⊎◌, ◌∙◌, inl, inr, refl, sym, ap, subst, ℕ, suc, ◌+◌, ◌≤◌, ◌<◌, ◌==◌, not, cond, Bool, true, false, List, [], ◌∷◌, arith, length, map, eqb-true}
use Rattle.std.specs.Prelude.{All, Contains, IsTrue, MatchBool, flat_map, nat_eq, slice_set}
use Rattle.std.proofs.lemmas.Bool.{false≢true}
use Rattle.std.proofs.lemmas.List.{length-map, length-set}
use Rattle.std.proofs.lemmas.List.Elements.{Contains-append_left, Contains-append_right, Contains-push}
use Rattle.isp_base.specs.Lists.{Has}
use Rattle.isp_laws.proofs.ListLaws.{Has-map_of}
use Rattle.isp_reclock.specs.declared.entries.Blocker.{Blocker}
use Rattle.isp_reclock.specs.declared.entries.Lock.{Lock}
use Rattle.isp_reclock.specs.Tables.{holds, is_lock}
use Rattle.isp_reclock.specs.Blockers.{AreBlockers, lock_of}
use Rattle.isp_waits.specs.Graphs.{WaitsFor, has, waits_of}
use Rattle.isp_waits.proofs.Lists.{few_rising, some_list}
use Rattle.isp_waits.proofs.Members.{all_members}
use Rattle.isp_events.specs.Sessions.{SessionState, session_at}
use Rattle.isp_events.specs.State.{State, is_empty, is_waiting, session_numbers}
use Rattle.isp_events.specs.Deadlocks.{AreDeadlocks, Deadlock, MayWait, after_refusal, as_victim, broken, waits_with, with_victims}
use Rattle.isp_events.specs.Events.{blockers_of}
use Rattle.isp_order.specs.InOrder.{AreCounted}
use Rattle.isp_event_laws.proofs.ListTests.{Passing, any_has, empty_is}
use Rattle.isp_event_laws.proofs.PlacingLaws.{Has-flat_map_of}
use Rattle.isp_causes.proofs.EventCases.{blocker_stands}
use Rattle.isp_order_locks.proofs.LockLists.{lock_is}
use Rattle.isp_order_locks.proofs.WaitGraphs.{Waiting, member_waits, nobody, waits_none, waits_other}
use Rattle.isp_measure.specs.Measure.{total}
use Rattle.isp_measure.proofs.SumLaws.{numbered, total_has, total_less, total_low}
use Rattle.isp_choices.proofs.ListParts.{lists_has, lists_of, up_to, up_to_has}

-- ---- victims

-- a deadlock of which the victim alone is known
abbrev pub as_deadlock : ℕ → Deadlock
as_deadlock victim = record { members = []; victim = victim }

abbrev pub victims_in : List Deadlock → List ℕ
victims_in ds = map (λ (d : Deadlock). d.victim) ds

broken_same : (waits : List (List ℕ)) (ds : List Deadlock) → broken waits (map as_deadlock (victims_in ds)) ≡ broken waits ds
broken_same waits [] = refl
broken_same waits (d ∷ ds) = broken_same (slice_set waits d.victim []) ds

victims_same : (sessions : List SessionState) (ds : List Deadlock) → with_victims sessions (map as_deadlock (victims_in ds)) ≡ with_victims sessions ds
victims_same sessions [] = refl
victims_same sessions (d ∷ ds) = victims_same (slice_set sessions d.victim (as_victim (session_at sessions d.victim))) ds

refusal_same : (state : State) (s : ℕ) (on : List ℕ) (ds : List Deadlock) → after_refusal state s on (map as_deadlock (victims_in ds)) ≡ after_refusal state s on ds
refusal_same state s on ds =
    ap (λ waits. record state { waits = waits; sessions = with_victims state.sessions (map as_deadlock (victims_in ds)) }) (broken_same (waits_with state s on) ds)
    ∙ ap (λ sessions. record state { waits = broken (waits_with state s on) ds; sessions = sessions }) (victims_same state.sessions ds)

abbrev one_if_waiting : List (List ℕ) → ℕ → ℕ
one_if_waiting waits k = cond (is_waiting waits k) 1 0

-- each victim waited, and waits no more
record AreFew (ns : List ℕ) (waits : List (List ℕ)) (ds : List Deadlock) : Type 0 where
  pub few : length ds ≤ total (one_if_waiting waits) ns
  pub each : (v : ℕ) → Has (victims_in ds) v → Has ns v

waits_then : (waits : List (List ℕ)) (v : ℕ) → Waiting waits v → is_waiting waits v ≡ true
waits_then waits v w = by_test (is_empty (waits_of waits v)) refl
  where
    by_test : (b : Bool) → is_empty (waits_of waits v) ≡ b → not b ≡ true
    by_test true e = absurd (nobody waits v w.for (empty_is (waits_of waits v) e) w.edge)
    by_test false e = refl

module _ (ns : List ℕ) where
  emptied_each : (waits : List (List ℕ)) (v k : ℕ) → one_if_waiting (slice_set waits v []) k ≤ one_if_waiting waits k
  emptied_each waits v k = by_test (k == v) refl
    where
      by_test : (b : Bool) → (k == v) ≡ b → one_if_waiting (slice_set waits v []) k ≤ one_if_waiting waits k
      by_test true e =
          let none : one_if_waiting (slice_set waits v []) k ≡ 0 =
          ap (one_if_waiting (slice_set waits v [])) (eqb-true k v e) ∙ ap (λ (xs : List ℕ). cond (not (is_empty xs)) 1 0) (waits_none waits v) in
          omega (arith, none)
      by_test false e =
          let is : one_if_waiting (slice_set waits v []) k ≡ one_if_waiting waits k = ap (λ (xs : List ℕ). cond (not (is_empty xs)) 1 0) (waits_other waits v k [] e) in
          omega (arith, is)

  still_waiting : (waits : List (List ℕ)) (v k : ℕ) → is_waiting (slice_set waits v []) k ≡ true → is_waiting waits k ≡ true
  still_waiting waits v k h = by_test (k == v) refl
    where
      by_test : (b : Bool) → (k == v) ≡ b → is_waiting waits k ≡ true
      by_test true e =
          let none : is_waiting (slice_set waits v []) k ≡ false = ap (is_waiting (slice_set waits v [])) (eqb-true k v e) ∙ ap (λ (xs : List ℕ). not (is_empty xs)) (waits_none waits v) in
          absurd (false≢true (sym none ∙ h))
      by_test false e = sym (ap (λ (xs : List ℕ). not (is_empty xs)) (waits_other waits v k [] e)) ∙ h

  are_few : (waits : List (List ℕ)) (undo : List ℕ) (asker : ℕ) (ds : List Deadlock) → ((k : ℕ) → is_waiting waits k ≡ true → Has ns k) → AreDeadlocks waits undo asker ds → AreFew ns waits ds
  are_few waits undo asker [] listed h = record { few = omega arith; each = λ v has. absurd has }
  are_few waits undo asker (d ∷ ds) listed h =
      by_last (d.victim == asker) h.2 (are_few (slice_set waits d.victim []) undo asker ds (λ k w. listed k (still_waiting waits d.victim k w)))
    where
      waited : is_waiting waits d.victim ≡ true
      waited = waits_then waits d.victim (member_waits waits d.members d.victim h.0.cycle h.1.member)

      here : Has ns d.victim
      here = listed d.victim waited

      less : total (one_if_waiting (slice_set waits d.victim [])) ns < total (one_if_waiting waits) ns
      less =
          total_less (one_if_waiting (slice_set waits d.victim [])) (one_if_waiting waits) ns d.victim (λ k k_has. emptied_each waits d.victim k) here
          (let none : one_if_waiting (slice_set waits d.victim []) d.victim ≡ 0 = ap (λ (xs : List ℕ). cond (not (is_empty xs)) 1 0) (waits_none waits d.victim) in
          let one : one_if_waiting waits d.victim ≡ 1 = ap (λ b. cond b 1 0) waited in
          omega (arith, none, one))

      with_rest : (rest : List Deadlock) → AreFew ns (slice_set waits d.victim []) rest → AreFew ns waits (d ∷ rest)
      with_rest rest f = record { few = omega (arith, f.few, less); each = each }
        where
          each : (v : ℕ) → Has (victims_in (d ∷ rest)) v → Has ns v
          each v (inl e) = subst (Has ns) e here
          each v (inr k) = f.each v k

      by_last : (b : Bool) → MatchBool b (ds ≡ []) (AreDeadlocks (slice_set waits d.victim []) undo asker ds)
          → (AreDeadlocks (slice_set waits d.victim []) undo asker ds → AreFew ns (slice_set waits d.victim []) ds) → AreFew ns waits (d ∷ ds)
      by_last true none again = subst (λ xs. AreFew ns waits (d ∷ xs)) (sym none) (with_rest [] (record { few = omega arith; each = λ v has. absurd has }))
      by_last false more again = with_rest ds (again more)

-- ---- states behind refusals

-- the session waits for one of these lists
pub refusals : State → ℕ → List (List ℕ) → List State
refusals state s ons = flat_map (λ on. map (λ victims. after_refusal state s on (map as_deadlock victims)) (lists_of session_numbers 17)) ons

pub refusals_has : (state : State) (s : ℕ) (ons : List (List ℕ)) (on : List ℕ) (ds : List Deadlock) → AreCounted state → Has ons on → MayWait state s on ds
    → Has (refusals state s ons) (after_refusal state s on ds)
unfolding refusals
refusals_has state s ons on ds counted has may =
    Has-flat_map_of (λ on. map (λ victims. after_refusal state s on (map as_deadlock victims)) (lists_of session_numbers 17)) ons on (after_refusal state s on ds) has
    (subst (Has (map (λ victims. after_refusal state s on (map as_deadlock victims)) (lists_of session_numbers 17))) (refusal_same state s on ds)
    (Has-map_of (λ victims. after_refusal state s on (map as_deadlock victims)) (lists_of session_numbers 17) (victims_in ds) (lists_has session_numbers 17 (victims_in ds) short few.each)))
  where
    listed : (k : ℕ) → is_waiting (waits_with state s on) k ≡ true → Has session_numbers k
    listed k w = numbered k (omega (arith, seat, length-set state.waits s on, counted.waits))
      where
        not_true : (b : Bool) → not b ≡ true → b ≡ false
        not_true true h = absurd (false≢true h)
        not_true false h = refl

        seat : k < length (slice_set state.waits s on)
        seat = some_list (slice_set state.waits s on) k (not_true (is_empty (waits_of (slice_set state.waits s on) k)) w)

    few : AreFew session_numbers (waits_with state s on) ds
    few = are_few session_numbers (waits_with state s on) _ s ds listed may

    short : length (victims_in ds) ≤ 17
    short =
        let low : total (one_if_waiting (waits_with state s on)) session_numbers ≤ length session_numbers = total_low (one_if_waiting (waits_with state s on)) session_numbers (λ k. one (is_waiting (waits_with state s on) k)) in
        let le : length ds ≤ total (one_if_waiting (waits_with state s on)) session_numbers = few.few in
        omega (arith, low, le, length-map ds (λ (d : Deadlock). d.victim))
      where
        one : (b : Bool) → cond b 1 0 ≤ 1
        one true = omega arith
        one false = omega arith

-- ---- who stands in the way of a lock

-- the greatest of their numbers is no more than this
abbrev trx_bound : List Lock → ℕ
trx_bound locks = total (λ (l : Lock). suc l.trx) locks

pub blocker_lists : State → List (List ℕ)
blocker_lists state = lists_of (up_to (trx_bound state.locks)) (trx_bound state.locks)

from_named : (by : List Blocker) (k : ℕ) → Has (blockers_of by) k → (b : Blocker) × Contains by b × (b.trx ≡ k)
from_named [] k h = absurd h
from_named (b ∷ by) k (inl e) = (b, Contains-append_left (b ∷ []) by b (Contains-push [] b), e)
from_named (b ∷ by) k (inr h) = (let r = from_named by k h in (r.0, Contains-append_right (b ∷ []) by r.0 r.1, r.2))

has_among : (xs : List ℕ) (x : ℕ) → has xs x ≡ true → Has xs x
has_among xs x h = (let p : Passing (nat_eq x) xs = any_has (nat_eq x) xs h in subst (Has xs) (sym (eqb-true x p.x p.passes)) p.has)

pub blockers_listed : (state : State) (asked : Lock) (by : List Blocker) → AreBlockers state.locks asked by → Has (blocker_lists state) (blockers_of by)
unfolding blocker_lists
blockers_listed state asked by are = lists_has (up_to bound) bound (blockers_of by) short (λ k h. up_to_has bound k (omega (arith, low k h)))
  where
    bound : ℕ
    bound = trx_bound state.locks

    low : (k : ℕ) → Has (blockers_of by) k → k < trx_bound state.locks
    low k h =
        let r = from_named by k h in
        let stands = blocker_stands state.locks asked r.0 ((are.exact r.0).0 r.1) in
        let p : Passing (is_lock (lock_of r.0.trx asked r.0.held)) state.locks = any_has (is_lock (lock_of r.0.trx asked r.0.held)) state.locks stands.1.1 in
        let le : suc p.x.trx ≤ trx_bound state.locks = total_has (λ (l : Lock). suc l.trx) state.locks p.x p.has in
        let is : r.0.trx ≡ p.x.trx = ap (λ (l : Lock). l.trx) (lock_is (lock_of r.0.trx asked r.0.held) p.x p.passes) in
        omega (arith, le, is, r.2)

    short : length (blockers_of by) ≤ trx_bound state.locks
    short = few_rising (blockers_of by) (trx_bound state.locks) are.rising (all_members (λ k. k < trx_bound state.locks) (blockers_of by) (λ k h. low k (has_among (blockers_of by) k h)))
