-- The answers of the worked runs are serial, by computation: what wrong machines answer isn't refused for want of a right answer.
use Rattle.std.specs.Prelude.{◌≡◌, ℤ, pos, List, [], ◌∷◌, Option, Some}
use Rattle.std.specs.Option.{option_map}
use Rattle.isp_serial.specs.Serial.{none_pending}
use Rattle.isp_events.specs.Views.{committed}
use Rattle.isp_events.specs.Ways.{Machine}
use Rattle.isp_events.specs.Lines.{Line, answers_in}
use Rattle.isp_event_laws.specs.SerialAfter.{serial_from}
use Rattle.isp_event_examples.specs.Points.{five}
use Rattle.isp_event_examples.specs.Overtaken.{overtaking, overtaking_lines}
use Rattle.isp_event_examples.specs.Percolating.{percolating, percolating_lines}
use Rattle.isp_event_examples.specs.Deleting.{committing, committing_lines, five_keys, four_keys, keys_in, rolling_back, rolling_back_lines}
use Rattle.isp_event_examples.specs.Deadlocked.{deadlocking, deadlocking_lines}

-- the keys of the tables at the end of a run from the five points, where its answers are serial
abbrev pub keys_after : Machine → List Line → Option (List (List ℤ))
keys_after m lines = option_map keys_in (serial_from m.language m.script (committed five) none_pending (answers_in lines))

pub record RightAnswersAgree : Type 0 where
  pub overtaken : keys_after overtaking overtaking_lines ≡ Some ((pos 1 ∷ pos 2 ∷ pos 3 ∷ pos 4 ∷ pos 5 ∷ pos 6 ∷ pos 7 ∷ []) ∷ [])
  pub percolated : keys_after percolating percolating_lines ≡ Some ((pos 1 ∷ pos 2 ∷ pos 3 ∷ pos 4 ∷ pos 5 ∷ pos 6 ∷ []) ∷ [])
  pub rolled_back : keys_after rolling_back rolling_back_lines ≡ Some five_keys
  pub committed : keys_after committing committing_lines ≡ Some four_keys
  pub deadlocked : keys_after deadlocking deadlocking_lines ≡ Some ((pos 1 ∷ pos 2 ∷ pos 3 ∷ pos 4 ∷ pos 5 ∷ pos 6 ∷ []) ∷ [])
