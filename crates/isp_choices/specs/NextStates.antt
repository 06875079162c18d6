-- What an event leaves open is finite: from each state one event leads to one of the states of a list.
use Rattle.std.specs.Prelude.{List}
use Rattle.isp_base.specs.Lists.{Has}
use Rattle.isp_events.specs.State.{State}
use Rattle.isp_events.specs.Ways.{Machine}
use Rattle.isp_events.specs.Events.{Actor, Choice, MayHappen, after}
use Rattle.isp_order.specs.InOrder.{AreCounted}

abbrev pub NextStatesAreListed : Type 0
NextStatesAreListed =
    (m : Machine) (state : State) → (list : List State) × ((actor : Actor) (choice : Choice) → AreCounted state → MayHappen m state actor choice → Has list (after m state actor choice))
