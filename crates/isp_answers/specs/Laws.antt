-- What holds of the words of this crate at once.
use Rattle.isp_events.specs.State.{State}
use Rattle.isp_events.specs.Ways.{Machine}
use Rattle.isp_serial.specs.Serial.{none_pending}
use Rattle.isp_order.specs.InOrder.{IsRested}
use Rattle.isp_answers.specs.Course.{AreOnCourse}
use Rattle.isp_answers.specs.Told.{AreTold}

-- in a rested state nobody is at work, and nothing is open
pub record IsRestedTold (m : Machine) (state : State) : Type 0 where
  pub on_course : AreOnCourse state
  pub told : AreTold m state none_pending

abbrev pub RestedIsTold : Type 0
RestedIsTold = (m : Machine) (state : State) → IsRested m state → IsRestedTold m state
