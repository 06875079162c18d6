-- A state on the way of a computed run: two sessions have waited for each other, and one of them is the victim, not answered yet.
use Rattle.std.specs.Prelude.{◌≡◌, true, List, [], ◌∷◌, ◌++◌, slice_set}
use Rattle.isp_events.specs.Sessions.{session_at}
use Rattle.isp_events.specs.State.{State, no_waits}
use Rattle.isp_events.specs.Events.{with_child, with_deadlocks, Event, MayFollow, after_all}
use Rattle.isp_order.specs.InOrder.{InOrder}
use Rattle.isp_event_examples.specs.Deadlocked.{deadlocking}
use Rattle.isp_event_examples.specs.Points.{five, nothing}
use Rattle.isp_order_examples.specs.BrokenClauses.{by}

abbrev pub until_deadlock : List Event
until_deadlock =
    by 1 (nothing 7)
    ++ (by 2 (nothing 7)
    ++ (by 1 (nothing 2 ++ with_child 17 ∷ with_child 20 ∷ with_deadlocks [] ∷ [])
    ++ by 2 (nothing 2 ++ with_child 17 ∷ with_child 19 ∷ with_deadlocks (record { members = 2 ∷ 1 ∷ []; victim = 2 } ∷ []) ∷ [])))

abbrev pub deadlocked : State
deadlocked = after_all deadlocking five until_deadlock

pub record DeadlockIsInOrder : Type 0 where
  pub happen : MayFollow deadlocking 1 1 five until_deadlock
  pub in_order : InOrder deadlocking deadlocked
  pub victim : (session_at deadlocked.sessions 2).victim ≡ true
  pub waits : deadlocked.waits ≡ slice_set no_waits 1 (2 ∷ [])
