-- The theorem at a worked run: a split overtakes a search, from the five points. Its premises hold there, so it isn't empty.
use Rattle.std.specs.Prelude.{◌≡◌, ℕ, pos, List, [], ◌∷◌, Some}
use Rattle.isp_serial.specs.Serial.{Serial}
use Rattle.isp_events.specs.State.{State}
use Rattle.isp_events.specs.Views.{committed}
use Rattle.isp_events.specs.Lines.{Line, answers_in}
use Rattle.isp_events.specs.Events.{Events}
use Rattle.isp_events.specs.Runs.{Run}
use Rattle.isp_order.specs.InOrder.{IsProper, IsRested}
use Rattle.isp_event_examples.specs.Points.{five}
use Rattle.isp_event_examples.specs.Overtaken.{overtaking, overtaking_lines}
use Rattle.isp_event_examples.specs.Deleting.{keys_in}
use Rattle.isp_event_examples.specs.RightAnswers.{keys_after}
use Rattle.isp_event_examples.specs.WrongMachines.{Disagrees, WrongRun, answers_of_steps}

pub record OvertakingIsSerial : Type 0 where
  pub proper : IsProper overtaking
  pub rested : IsRested overtaking five
  pub left : State
  pub run : Run overtaking five overtaking_lines left
  pub serial : Serial overtaking.language overtaking.script (committed five) (answers_in overtaking_lines) (committed left)
  -- the tables that transactions done again one after another leave, and those of the machine, have the same keys
  pub replayed : keys_after overtaking overtaking_lines ≡ Some ((pos 1 ∷ pos 2 ∷ pos 3 ∷ pos 4 ∷ pos 5 ∷ pos 6 ∷ pos 7 ∷ []) ∷ [])
  pub kept : keys_in (committed left) ≡ ((pos 1 ∷ pos 2 ∷ pos 3 ∷ pos 4 ∷ pos 5 ∷ pos 6 ∷ pos 7 ∷ []) ∷ [])

-- What a wrong machine answers where its answers aren't serial, the machine doesn't, whatever its events.
abbrev pub WrongAnswersAreNone : Type 0
WrongAnswersAreNone =
    (r : WrongRun) (first last : ℕ) (left : State) (lines : List Line) → Disagrees r → IsProper r.machine → IsRested r.machine r.start
    → Events r.machine first last r.start lines left → answers_in lines ≡ answers_of_steps r.machine r.start r.steps → ⊥
