-- What a state in order is worth: the laws that stand on it have one form.
use Rattle.isp_events.specs.State.{State}
use Rattle.isp_events.specs.Ways.{Machine}
use Rattle.isp_events.specs.Events.{Actor, Choice, MayHappen, after}
use Rattle.isp_order.specs.InOrder.{InOrder, IsProper, IsRested}

-- a rested state is in order
abbrev pub RestedIsInOrder : Type 0
RestedIsInOrder = (m : Machine) (state : State) → IsRested m state → InOrder m state

-- from a state in order, every event leads to one with the property
abbrev pub EventKeeps : (Machine → State → Type 0) → Type 0
EventKeeps P =
    (m : Machine) (state : State) (actor : Actor) (choice : Choice) → IsProper m → InOrder m state → MayHappen m state actor choice
    → P m (after m state actor choice)
