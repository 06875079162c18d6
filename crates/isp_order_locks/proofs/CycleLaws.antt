-- Nobody waits in a circle: new waits begin at the asker alone, and cycles through it are broken.
use Rattle.std.proofs.Common.{ℕ}
use Rattle.std.specs.Prelude.{slice_set}
use Rattle.isp_events.specs.State.{State, ended}
use Rattle.isp_events.specs.Ways.{Machine}
use Rattle.isp_events.specs.Deadlocks.{undo_lengths}
use Rattle.isp_events.specs.Events.{Actor, Choice, MayHappen, after}
use Rattle.isp_order.specs.Locks.{HaveNoCycle}
use Rattle.isp_order.specs.InOrder.{InOrder, IsProper}
use Rattle.isp_causes.proofs.EventCases.{EachKeeps, event_keeps}
use Rattle.isp_order_locks.proofs.WaitGraphs.{no_cycle_broken, no_cycle_within, pass_through, remaining}

pub no_cycle_kept : (m : Machine) (state : State) (actor : Actor) (choice : Choice) → IsProper m → InOrder m state → MayHappen m state actor choice
    → HaveNoCycle (after m state actor choice).waits
no_cycle_kept m state actor choice good o h = event_keeps m state good o (λ (st : State). HaveNoCycle st.waits) each actor choice h
  where
    at_end : (s : ℕ) → HaveNoCycle (ended state.waits s)
    at_end s = no_cycle_within (ended state.waits s) state.waits (λ a b w. (remaining state.waits s a b w).before) o.no_cycle

    each : EachKeeps m state (λ (st : State). HaveNoCycle st.waits)
    each = record {
      still = o.no_cycle;
      purge = λ some. o.no_cycle;
      end = λ s over active. at_end s;
      answer = λ s reply active at. o.no_cycle;
      undo = λ s entry more active at. o.no_cycle;
      create = λ s over name schema leaf roots active at may. at_end s;
      refuse = λ s on ds active at may. no_cycle_broken (slice_set state.waits s on) (undo_lengths state.sessions) s ds (pass_through state.waits s on o.no_cycle) may;
      lock_table = λ s statement number mode active at none. o.no_cycle;
      lock_key = λ s number key mode active at none. o.no_cycle;
      lock_row = λ s number key mode active at none. o.no_cycle;
      visit = λ s number column predicate active at. o.no_cycle;
      scan = λ s number leaf active at. o.no_cycle;
      step = λ s d q active at may. o.no_cycle;
      stale = λ s d active at. o.no_cycle;
      full = λ s active at. o.no_cycle;
      place = λ s d q ds active at may. o.no_cycle;
      row = λ s number change placed p active at may. o.no_cycle;
    }
