-- The run is one of the machine's, from a rested state, and so serial.
use Rattle.std.proofs.Common.{◌≡◌, ◌∙◌, sym, ap, ℤ, List, [], ◌∷◌, pos, Some, None}
use Rattle.std.specs.Option.{option_map}
use Rattle.isp_plain.specs.declared.statement.Statement.{Statement}
use Rattle.isp_plain.specs.declared.statement.Statement.TheVariants.{Begin, Commit, Insert}
use Rattle.isp_serial.specs.Answers.{Answer}
use Rattle.isp_serial.specs.Serial.{Serial, none_pending}
use Rattle.isp_events.specs.State.{State}
use Rattle.isp_events.specs.Views.{committed}
use Rattle.isp_events.specs.Lines.{answers_in}
use Rattle.isp_event_laws.specs.SerialAfter.{serial_from}
use Rattle.isp_event_laws.proofs.SerialLaws.{serial_computes}
use Rattle.isp_order.specs.InOrder.{IsProper}
use Rattle.isp_event_examples.specs.Points.{five, named_p, point_row, points_meeting}
use Rattle.isp_event_examples.specs.Overtaken.{overtaking, overtaking_lines}
use Rattle.isp_event_examples.specs.Deleting.{keys_in}
use Rattle.isp_event_examples.specs.RightAnswers.{keys_after}
use Rattle.isp_event_examples.proofs.LanguageLaws.{language_fits}
use Rattle.isp_event_examples.proofs.RightLaws.{right_answers_agree}
use Rattle.isp_event_examples.proofs.WorkedRows.{split_overtakes}
use Rattle.isp_order_examples.proofs.RestedPointLaws.{five_points_are_in_order}
use Rattle.isp_serial_runs.proofs.RunProofs.{events_compute, run_is_serial}
use Rattle.isp_serial_examples.specs.ServedRuns.{OvertakingIsSerial, WrongAnswersAreNone}

-- the statements of its script
abbrev statements : List Statement
statements = Begin ∷ points_meeting 0 0 6 6 ∷ Commit ∷ Insert named_p (point_row 6 9 1 ∷ point_row 7 9 2 ∷ []) ∷ []

proper : IsProper overtaking
proper = record { faithful = language_fits.faithful statements; servable = language_fits.servable statements; sound = language_fits.sound }

abbrev left : State
left = split_overtakes.0

abbrev seven_keys : List (List ℤ)
seven_keys = (pos 1 ∷ pos 2 ∷ pos 3 ∷ pos 4 ∷ pos 5 ∷ pos 6 ∷ pos 7 ∷ []) ∷ []

serial : Serial overtaking.language overtaking.script (committed five) (answers_in overtaking_lines) (committed left)
serial = run_is_serial overtaking five left overtaking_lines proper five_points_are_in_order.rested split_overtakes.1

some_is : {X : Type 0} (x y : X) → Some x ≡ Some y → x ≡ y
some_is x y h = cc

-- the machine's tables are those that are computed one transaction after another
kept : keys_in (committed left) ≡ seven_keys
kept =
    let computed : serial_from overtaking.language overtaking.script (committed five) none_pending (answers_in overtaking_lines) ≡ Some (committed left) =
    serial_computes overtaking.language overtaking.script (committed five) none_pending (answers_in overtaking_lines) (committed left) serial.pending serial.ended in
    let keys : keys_after overtaking overtaking_lines ≡ Some (keys_in (committed left)) = ap (option_map keys_in) computed in
    some_is (keys_in (committed left)) seven_keys (sym keys ∙ right_answers_agree.overtaken)

pub overtaking_is_serial : OvertakingIsSerial
overtaking_is_serial = record {
  proper = proper;
  rested = five_points_are_in_order.rested;
  left = left;
  run = split_overtakes.1;
  serial = serial;
  replayed = right_answers_agree.overtaken;
  kept = kept;
}

none_some : {X : Type 0} (x : X) → None ≡ Some x → ⊥
none_some x h = cc

pub wrong_answers_are_none : WrongAnswersAreNone
wrong_answers_are_none r first last left lines d good rested events same =
    none_some (committed left)
    (sym d.not_serial
    ∙ ap (λ (answers : List Answer). serial_from r.machine.language r.machine.script (committed r.start) none_pending answers) (sym same)
    ∙ events_compute r.machine first last r.start left lines good rested events)
