-- Each event of a session and each purge brings the machine nearer to its end.
use Rattle.std.specs.Prelude.{◌≡◌, Bool, true, false}
use Rattle.isp_events.specs.State.{State}
use Rattle.isp_events.specs.Ways.{Machine}
use Rattle.isp_events.specs.Events.{Actor, acts, purges, flushes, lists_locks, Choice, MayHappen, after}
use Rattle.isp_order.specs.InOrder.{InOrder, IsProper}
use Rattle.isp_measure.specs.Order.{IsLower}
use Rattle.isp_measure.specs.Measure.{measure}

-- all but a flush and a list of the locks, which change nothing
abbrev pub is_progress : Actor → Bool
is_progress (acts s) = true
is_progress purges = true
is_progress flushes = false
is_progress lists_locks = false

-- from a state in order each such event lowers the measure, whoever acts and whatever is chosen
abbrev pub EachEventLowers : Type 0
EachEventLowers =
    (m : Machine) (state : State) (actor : Actor) (choice : Choice) → IsProper m → InOrder m state → MayHappen m state actor choice
    → is_progress actor ≡ true → IsLower (measure m.script (after m state actor choice)) (measure m.script state)
