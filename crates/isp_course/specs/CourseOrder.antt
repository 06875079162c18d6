-- Statements at work stay on course, whoever acts.
use Rattle.isp_events.specs.Events.{Actor, Choice, MayHappen, after}
use Rattle.isp_events.specs.State.{State}
use Rattle.isp_events.specs.Ways.{Machine}
use Rattle.isp_order.specs.InOrder.{InOrder, IsProper}
use Rattle.isp_answers.specs.Course.{AreOnCourse}

abbrev pub KeepsCourse : Type 0
KeepsCourse =
    (m : Machine) (state : State) (actor : Actor) (choice : Choice) → IsProper m → InOrder m state → AreOnCourse state → MayHappen m state actor choice
    → AreOnCourse (after m state actor choice)
