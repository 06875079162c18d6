-- No two sessions hold modes of one thing that conflict.
use Rattle.std.proofs.Common.{◌≡◌, ◌⊎◌, ◌∙◌, inl, inr, refl, sym, ap, subst, ℕ, ◌==◌, Bool, true, false, List, [], eqb-true, eq-eqb}
use Rattle.std.proofs.lemmas.Bool.{false≢true}
use Rattle.isp_reclock.specs.declared.entries.Lock.{Lock}
use Rattle.isp_reclock.specs.declared.modes.Mode.{Mode}
use Rattle.isp_reclock.specs.Modes.{conflicts}
use Rattle.isp_reclock.specs.Tables.{key_lock, table_lock, with_lock, without}
use Rattle.isp_reclock.specs.Blockers.{AreBlockers}
use Rattle.isp_events.specs.State.{State}
use Rattle.isp_events.specs.Ways.{Machine}
use Rattle.isp_events.specs.Events.{Actor, Choice, MayHappen, after}
use Rattle.isp_order.specs.Locks.{AreCompatible, Holds, lock_on}
use Rattle.isp_order.specs.InOrder.{InOrder, IsProper}
use Rattle.isp_causes.proofs.EventCases.{EachKeeps, event_keeps}
use Rattle.isp_order_locks.proofs.LockLists.{conflict_back, held_before, held_without, nobody_conflicts}

other_way : (s k : ℕ) → (s == k) ≡ false → (k == s) ≡ false
other_way s k h = by_test (k == s) refl
  where
    by_test : (b : Bool) → (k == s) ≡ b → b ≡ false
    by_test true e = absurd (false≢true (sym h ∙ eq-eqb s k (sym (eqb-true k s e))))
    by_test false e = refl

pub compatible_with : (locks : List Lock) (lock : Lock) → AreCompatible locks → AreBlockers locks lock [] → AreCompatible (with_lock locks lock)
compatible_with locks lock c none s k table key a b h i apart =
    by_cases (held_before locks lock (lock_on s table key a) h) (held_before locks lock (lock_on k table key b) i)
  where
    of_new : (t u : ℕ) (x y : Mode) → (t == u) ≡ false → Holds locks t table key x → lock_on u table key y ≡ lock → conflicts x y ≡ false
    of_new t u x y ne held e = nobody_conflicts locks (lock_on u table key y) t x (subst (λ (l : Lock). AreBlockers locks l []) (sym e) none) ne held

    by_cases : Holds locks s table key a ⊎ (lock_on s table key a ≡ lock) → Holds locks k table key b ⊎ (lock_on k table key b ≡ lock) → conflicts a b ≡ false
    by_cases (inl x) (inl y) = c s k table key a b x y apart
    by_cases (inl x) (inr y) = of_new s k a b apart x y
    by_cases (inr x) (inl y) = conflict_back a b ∙ of_new k s b a (other_way s k apart) y x
    by_cases (inr x) (inr y) =
        let same : lock_on s table key a ≡ lock_on k table key b = x ∙ sym y in
        absurd (false≢true (sym apart ∙ eq-eqb s k (ap (λ (l : Lock). l.trx) same)))

pub compatible_without : (locks : List Lock) (s : ℕ) → AreCompatible locks → AreCompatible (without locks s)
compatible_without locks s c t k table key a b h i apart =
    c t k table key a b (held_without locks s (lock_on t table key a) h).0 (held_without locks s (lock_on k table key b) i).0 apart

pub compatible_kept : (m : Machine) (state : State) (actor : Actor) (choice : Choice) → IsProper m → InOrder m state → MayHappen m state actor choice
    → AreCompatible (after m state actor choice).locks
compatible_kept m state actor choice good o h = event_keeps m state good o (λ (st : State). AreCompatible st.locks) each actor choice h
  where
    each : EachKeeps m state (λ (st : State). AreCompatible st.locks)
    each = record {
      still = o.no_conflict;
      purge = λ some. o.no_conflict;
      end = λ s over active. compatible_without state.locks s o.no_conflict;
      answer = λ s reply active at. o.no_conflict;
      undo = λ s entry more active at. o.no_conflict;
      create = λ s over name schema leaf roots active at may. compatible_without state.locks s o.no_conflict;
      refuse = λ s on ds active at may. o.no_conflict;
      lock_table = λ s statement number mode active at none. compatible_with state.locks (table_lock s number mode) o.no_conflict none;
      lock_key = λ s number key mode active at none. compatible_with state.locks (key_lock s number key mode) o.no_conflict none;
      lock_row = λ s number key mode active at none. compatible_with state.locks (key_lock s number key mode) o.no_conflict none;
      visit = λ s number column predicate active at. o.no_conflict;
      scan = λ s number leaf active at. o.no_conflict;
      step = λ s d q active at may. o.no_conflict;
      stale = λ s d active at. o.no_conflict;
      full = λ s active at. o.no_conflict;
      place = λ s d q ds active at may. o.no_conflict;
      row = λ s number change placed p active at may. o.no_conflict;
    }
