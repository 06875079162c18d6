-- Events are no more than some number of the state: by induction on the measure, over the states that one event leads to.
use Rattle.std.proofs.Common.{◌≡◌, ◌⊎◌, inl, inr, refl, sym, subst, ℕ, suc, ◌≤◌, ◌<◌, cond, Bool, true, false, List, [], ◌∷◌, arith, length}
use Rattle.std.proofs.lemmas.Bool.{cases_lt, false≢true}
use Rattle.isp_base.specs.Lists.{Has}
use Rattle.isp_events.specs.State.{State}
use Rattle.isp_events.specs.Ways.{Machine}
use Rattle.isp_events.specs.Events.{Actor, acts, purges, flushes, lists_locks, Event, MayFollow, MayHappen, after}
use Rattle.isp_order.specs.InOrder.{InOrder, IsProper}
use Rattle.isp_order_whole.proofs.WholeLaws.{order_kept}
use Rattle.isp_measure.specs.Order.{IsLower}
use Rattle.isp_measure.specs.Measure.{measure, total}
use Rattle.isp_measure.proofs.OrderLaws.{by_list}
use Rattle.isp_measure.proofs.SumLaws.{total_has}
use Rattle.isp_measure_laws.specs.Lowers.{is_progress}
use Rattle.isp_measure_laws.proofs.EventLaws.{each_event_lowers}
use Rattle.isp_choices.proofs.NextLaws.{next_states_are_listed}
use Rattle.isp_drain.specs.Ends.{EventsEnd, progress}

-- ---- the order is decided

lower_or_not : (xs ys : List ℕ) → IsLower xs ys ⊎ (IsLower xs ys → ⊥)
lower_or_not [] ys = inr (λ h. h)
lower_or_not (x ∷ xs) [] = inr (λ h. h)
lower_or_not (x ∷ xs) (y ∷ ys) = by_first (cases_lt x y) (cases_lt y x) (lower_or_not xs ys)
  where
    by_first : (x < y) ⊎ (y ≤ x) → (y < x) ⊎ (x ≤ y) → IsLower xs ys ⊎ (IsLower xs ys → ⊥) → IsLower (x ∷ xs) (y ∷ ys) ⊎ (IsLower (x ∷ xs) (y ∷ ys) → ⊥)
    by_first (inl lt) b rest = inl (inl lt)
    by_first (inr ge) (inl gt) rest = inr (λ h. elim h [ inl lt ↦ absurd (omega (arith, lt, gt)) | inr r ↦ absurd (omega (arith, r.0, gt)) ])
    by_first (inr ge) (inr le) (inl lower) = inl (inr (omega (arith, ge, le), lower))
    by_first (inr ge) (inr le) (inr never) = inr (λ h. elim h [ inl lt ↦ absurd (omega (arith, lt, ge)) | inr r ↦ never r.1 ])

-- ---- events, whatever their turns

abbrev pub AreNext : Machine → State → List Event → Type 0
AreNext m state [] = Unit {0}
AreNext m state (e ∷ events) = MayHappen m state e.actor e.choice × AreNext m (after m state e.actor e.choice) events

follow_next : (m : Machine) (first last : ℕ) (state : State) (events : List Event) → MayFollow m first last state events → AreNext m state events
follow_next m first last state [] h = tt
follow_next m first last state (e ∷ events) h = (h.1, follow_next m e.turn last (after m state e.actor e.choice) events h.2)

-- so many of them at most make progress
pub record HasBound (m : Machine) (state : State) : Type 0 where
  pub most : ℕ
  pub bound : InOrder m state → (events : List Event) → AreNext m state events → length (progress events) ≤ most

module _ (m : Machine) (good : IsProper m) where
  -- no flush and no list of the locks changes anything
  stays : (state : State) (e : Event) → is_progress e.actor ≡ false → after m state e.actor e.choice ≡ state
  stays state e h = by_actor e.actor h
    where
      by_actor : (actor : Actor) → is_progress actor ≡ false → after m state actor e.choice ≡ state
      by_actor (acts s) k = absurd (false≢true (sym k))
      by_actor purges k = absurd (false≢true (sym k))
      by_actor flushes k = refl
      by_actor lists_locks k = refl

  module _ (state : State) (lower : (st : State) → IsLower (measure m.script st) (measure m.script state) → HasBound m st) where
    abbrev of_lower : (st : State) → IsLower (measure m.script st) (measure m.script state) ⊎ (IsLower (measure m.script st) (measure m.script state) → ⊥) → ℕ
    of_lower st (inl l) = (lower st l).most
    of_lower st (inr never) = 0

    -- the number of a state that one event leads to
    abbrev number_of_next : State → ℕ
    number_of_next st = of_lower st (lower_or_not (measure m.script st) (measure m.script state))

    abbrev list : List State
    list = (next_states_are_listed m state).0

    abbrev number : ℕ
    number = suc (total number_of_next list)

    -- one event, and those behind it
    behind : InOrder m state → (e : Event) → MayHappen m state e.actor e.choice → is_progress e.actor ≡ true → (events : List Event) → AreNext m (after m state e.actor e.choice) events
        → suc (length (progress events)) ≤ number
    behind o e may goes events next =
        let le : number_of_next (after m state e.actor e.choice) ≤ total number_of_next list = total_has number_of_next list (after m state e.actor e.choice) listed in
        let many : length (progress events) ≤ number_of_next (after m state e.actor e.choice) = by_order (lower_or_not (measure m.script (after m state e.actor e.choice)) (measure m.script state)) in
        omega (arith, le, many)
      where
        listed : Has list (after m state e.actor e.choice)
        listed = (next_states_are_listed m state).1 e.actor e.choice o.counted may

        is_lower : IsLower (measure m.script (after m state e.actor e.choice)) (measure m.script state)
        is_lower = each_event_lowers m state e.actor e.choice good o may goes

        by_order : (d : IsLower (measure m.script (after m state e.actor e.choice)) (measure m.script state) ⊎ (IsLower (measure m.script (after m state e.actor e.choice)) (measure m.script state) → ⊥))
            → length (progress events) ≤ of_lower (after m state e.actor e.choice) d
        by_order (inl l) = (lower (after m state e.actor e.choice) l).bound (order_kept m state e.actor e.choice good o may) events next
        by_order (inr never) = absurd (never is_lower)

    all_few : InOrder m state → (events : List Event) → AreNext m state events → length (progress events) ≤ number
    all_few o [] next = omega arith
    all_few o (e ∷ events) next = by_actor (is_progress e.actor) refl (all_few o events)
      where
        by_actor : (b : Bool) → is_progress e.actor ≡ b → (AreNext m state events → length (progress events) ≤ number) → length (cond b (e ∷ progress events) (progress events)) ≤ number
        by_actor true goes again = behind o e next.0 goes events next.1
        by_actor false rests again = again (subst (λ st. AreNext m st events) (stays state e rests) next.1)

    bound_here : HasBound m state
    bound_here = record { most = number; bound = all_few }

  by_measure : (xs : List ℕ) → length xs ≡ 10 → (state : State) → measure m.script state ≡ xs → HasBound m state
  by_measure = by_list 10 (λ xs. (state : State) → measure m.script state ≡ xs → HasBound m state)
      (λ xs long each state e. bound_here state (λ st l. each (measure m.script st) refl (subst (λ ys. IsLower (measure m.script st) ys) e l) st refl))

  pub has_bound : (state : State) → HasBound m state
  has_bound state = by_measure (measure m.script state) refl state refl

pub events_end : EventsEnd
events_end m state good o = (b.most, λ first last lines left run. b.bound o run.events (follow_next m first last state run.events run.happen))
  where
    b : HasBound m state
    b = has_bound m good state
