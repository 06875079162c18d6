-- There are as many sessions as before, and as many lists of waits.
use Rattle.std.proofs.Common.{◌≡◌, ◌∙◌, refl, ℕ, List, [], ◌∷◌, length, map}
use Rattle.std.specs.Prelude.{slice_set}
use Rattle.std.proofs.lemmas.List.{length-set, length-map}
use Rattle.isp_events.specs.Sessions.{SessionState, session_at}
use Rattle.isp_events.specs.State.{State, ended, without}
use Rattle.isp_events.specs.Ways.{Machine}
use Rattle.isp_events.specs.Deadlocks.{Deadlock, as_victim, broken, with_victims}
use Rattle.isp_events.specs.Events.{Actor, Choice, MayHappen, after}
use Rattle.isp_order.specs.InOrder.{AreCounted, InOrder, IsProper}
use Rattle.isp_causes.proofs.EventCases.{EachKeeps, event_keeps}

length_broken : (waits : List (List ℕ)) (ds : List Deadlock) → length (broken waits ds) ≡ length waits
length_broken waits [] = refl
length_broken waits (d ∷ ds) = length_broken (slice_set waits d.victim []) ds ∙ length-set waits d.victim []

length_victims : (sessions : List SessionState) (ds : List Deadlock) → length (with_victims sessions ds) ≡ length sessions
length_victims sessions [] = refl
length_victims sessions (d ∷ ds) =
    length_victims (slice_set sessions d.victim (as_victim (session_at sessions d.victim))) ds ∙ length-set sessions d.victim (as_victim (session_at sessions d.victim))

one_set : (state : State) (s : ℕ) (new : SessionState) → AreCounted state → AreCounted (record state { sessions = slice_set state.sessions s new })
one_set state s new c = record { sessions = length-set state.sessions s new ∙ c.sessions; waits = c.waits }

length_ended : (waits : List (List ℕ)) (s : ℕ) → length (ended waits s) ≡ length waits
length_ended waits s = length-set (map (without s) waits) s [] ∙ length-map waits (without s)

pub counted_kept : (m : Machine) (state : State) (actor : Actor) (choice : Choice) → IsProper m → InOrder m state → MayHappen m state actor choice
    → AreCounted (after m state actor choice)
counted_kept m state actor choice good o h = event_keeps m state good o AreCounted each actor choice h
  where
    each : EachKeeps m state AreCounted
    each = record {
      still = o.counted;
      purge = λ some. record { sessions = o.counted.sessions; waits = o.counted.waits };
      end = λ s over active. record { sessions = length-set state.sessions s _ ∙ o.counted.sessions; waits = length_ended state.waits s ∙ o.counted.waits };
      answer = λ s reply active at. record { sessions = length-set state.sessions s _ ∙ o.counted.sessions; waits = o.counted.waits };
      undo = λ s entry more active at. record { sessions = length-set state.sessions s _ ∙ o.counted.sessions; waits = o.counted.waits };
      create = λ s over name schema leaf roots active at may. record { sessions = length-set state.sessions s _ ∙ o.counted.sessions; waits = length_ended state.waits s ∙ o.counted.waits };
      refuse = λ s on ds active at may. record {
        sessions = length_victims state.sessions ds ∙ o.counted.sessions;
        waits = length_broken (slice_set state.waits s on) ds ∙ length-set state.waits s on ∙ o.counted.waits;
      };
      lock_table = λ s statement number mode active at none. record { sessions = length-set state.sessions s _ ∙ o.counted.sessions; waits = o.counted.waits };
      lock_key = λ s number key mode active at none. record { sessions = length-set state.sessions s _ ∙ o.counted.sessions; waits = o.counted.waits };
      lock_row = λ s number key mode active at none. record { sessions = length-set state.sessions s _ ∙ o.counted.sessions; waits = o.counted.waits };
      visit = λ s number column predicate active at. record { sessions = length-set state.sessions s _ ∙ o.counted.sessions; waits = o.counted.waits };
      scan = λ s number leaf active at. record { sessions = length-set state.sessions s _ ∙ o.counted.sessions; waits = o.counted.waits };
      step = λ s d q active at may. record { sessions = length-set state.sessions s _ ∙ o.counted.sessions; waits = o.counted.waits };
      stale = λ s d active at. record { sessions = length-set state.sessions s _ ∙ o.counted.sessions; waits = o.counted.waits };
      full = λ s active at. record { sessions = length-set state.sessions s _ ∙ o.counted.sessions; waits = o.counted.waits };
      place = λ s d q ds active at may. record { sessions = length-set state.sessions s _ ∙ o.counted.sessions; waits = o.counted.waits };
      row = λ s number change placed p active at may. record { sessions = length-set state.sessions s _ ∙ o.counted.sessions; waits = o.counted.waits };
    }
