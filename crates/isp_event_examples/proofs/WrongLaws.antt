-- What wrong machines answer is not serial, by computation.
use Rattle.std.proofs.Common.{◌≡◌, refl, ◌&&◌, Bool, true, List, [], ◌∷◌, map, None}
use Rattle.std.specs.Fmt.{digits}
use Rattle.std.proofs.lemmas.Bool.{and_parts}
use Rattle.isp_waits.specs.Levels.{reaches, walk}
use Rattle.isp_geom.specs.Bounds.{points_of}
use Rattle.isp_geom.specs.Spelling.{spelling}
use Rattle.isp_wkt.specs.Printed.{printed}
use Rattle.isp_wkt.specs.Words.{word}
use Rattle.isp_plain.specs.Texts.{deadlock_text, end_text, full_text, ok_text}
use Rattle.isp_plain.specs.Refusals.{state, words}
use Rattle.isp_serial.specs.Answers.{Answer}
use Rattle.isp_serial.specs.Serial.{none_pending}
use Rattle.isp_events.specs.State.{State}
use Rattle.isp_events.specs.Views.{committed}
use Rattle.isp_events.specs.Ways.{Machine}
use Rattle.isp_events.specs.Next.{next}
use Rattle.isp_event_laws.specs.SerialAfter.{serial_from}
use Rattle.isp_event_laws.proofs.EventTests.{happen_by_test, happen_test}
use Rattle.isp_event_examples.specs.WrongMachines.{AreRight, Disagrees, Step, WrongRun, answers_of_steps, right, wrong, after_step}
use Rattle.isp_event_examples.specs.WrongRuns.{WrongMachinesDisagree, untested_run, searches_go_early_run, unpercolated_run, unlocked_rows_run, unlocked_gaps_run, intention_alone_run, shared_go_early_run, failed_go_early_run, rollback_goes_early_run, own_unseen_run, dead_unseen_run, entries_go_run, numbers_stay_run, numbers_not_undone_run, live_queued_run, entries_taken_over_run}

abbrev rights_test : Machine → State → List Step → Bool
rights_test m state [] = true
rights_test m state (right e ∷ steps) = happen_test m state e.actor e.choice && rights_test m (after_step m state (right e)) steps
rights_test m state (wrong turn s choice f ∷ steps) = rights_test m (after_step m state (wrong turn s choice f)) steps

rights : (m : Machine) (state : State) (steps : List Step) → rights_test m state steps ≡ true → AreRight m state steps
rights m state [] h = tt
rights m state (right e ∷ steps) h =
    let rest : Bool = rights_test m (after_step m state (right e)) steps in
    let parts : (happen_test m state e.actor e.choice ≡ true) × (rest ≡ true) = and_parts (happen_test m state e.actor e.choice) rest h in
    (happen_by_test m state e.actor e.choice parts.0, rights m (after_step m state (right e)) steps parts.1)
rights m state (wrong turn s choice f ∷ steps) h = rights m (after_step m state (wrong turn s choice f)) steps h

disagrees : (r : WrongRun) → rights_test r.machine r.start r.steps ≡ true → map (λ (a : Answer). a.text) (answers_of_steps r.machine r.start r.steps) ≡ r.texts
    → serial_from r.machine.language r.machine.script (committed r.start) none_pending (answers_of_steps r.machine r.start r.steps) ≡ None → Disagrees r
disagrees r test answers not_serial = record { rights = rights r.machine r.start r.steps test; answers = answers; not_serial = not_serial }

untested : Disagrees untested_run
unfolding next points_of spelling printed word digits ok_text end_text full_text deadlock_text state words reaches walk
untested = disagrees untested_run refl refl refl

searches_go_early : Disagrees searches_go_early_run
unfolding next points_of spelling printed word digits ok_text end_text full_text deadlock_text state words reaches walk
searches_go_early = disagrees searches_go_early_run refl refl refl

unpercolated : Disagrees unpercolated_run
unfolding next points_of spelling printed word digits ok_text end_text full_text deadlock_text state words reaches walk
unpercolated = disagrees unpercolated_run refl refl refl

unlocked_rows : Disagrees unlocked_rows_run
unfolding next points_of spelling printed word digits ok_text end_text full_text deadlock_text state words reaches walk
unlocked_rows = disagrees unlocked_rows_run refl refl refl

unlocked_gaps : Disagrees unlocked_gaps_run
unfolding next points_of spelling printed word digits ok_text end_text full_text deadlock_text state words reaches walk
unlocked_gaps = disagrees unlocked_gaps_run refl refl refl

intention_alone : Disagrees intention_alone_run
unfolding next points_of spelling printed word digits ok_text end_text full_text deadlock_text state words reaches walk
intention_alone = disagrees intention_alone_run refl refl refl

shared_go_early : Disagrees shared_go_early_run
unfolding next points_of spelling printed word digits ok_text end_text full_text deadlock_text state words reaches walk
shared_go_early = disagrees shared_go_early_run refl refl refl

failed_go_early : Disagrees failed_go_early_run
unfolding next points_of spelling printed word digits ok_text end_text full_text deadlock_text state words reaches walk
failed_go_early = disagrees failed_go_early_run refl refl refl

rollback_goes_early : Disagrees rollback_goes_early_run
unfolding next points_of spelling printed word digits ok_text end_text full_text deadlock_text state words reaches walk
rollback_goes_early = disagrees rollback_goes_early_run refl refl refl

own_unseen : Disagrees own_unseen_run
unfolding next points_of spelling printed word digits ok_text end_text full_text deadlock_text state words reaches walk
own_unseen = disagrees own_unseen_run refl refl refl

dead_unseen : Disagrees dead_unseen_run
unfolding next points_of spelling printed word digits ok_text end_text full_text deadlock_text state words reaches walk
dead_unseen = disagrees dead_unseen_run refl refl refl

entries_go : Disagrees entries_go_run
unfolding next points_of spelling printed word digits ok_text end_text full_text deadlock_text state words reaches walk
entries_go = disagrees entries_go_run refl refl refl

numbers_stay : Disagrees numbers_stay_run
unfolding next points_of spelling printed word digits ok_text end_text full_text deadlock_text state words reaches walk
numbers_stay = disagrees numbers_stay_run refl refl refl

numbers_not_undone : Disagrees numbers_not_undone_run
unfolding next points_of spelling printed word digits ok_text end_text full_text deadlock_text state words reaches walk
numbers_not_undone = disagrees numbers_not_undone_run refl refl refl

live_queued : Disagrees live_queued_run
unfolding next points_of spelling printed word digits ok_text end_text full_text deadlock_text state words reaches walk
live_queued = disagrees live_queued_run refl refl refl

entries_taken_over : Disagrees entries_taken_over_run
unfolding next points_of spelling printed word digits ok_text end_text full_text deadlock_text state words reaches walk
entries_taken_over = disagrees entries_taken_over_run refl refl refl

pub wrong_machines_disagree : WrongMachinesDisagree
wrong_machines_disagree = record {
  untested = untested;
  searches_go_early = searches_go_early;
  unpercolated = unpercolated;
  unlocked_rows = unlocked_rows;
  unlocked_gaps = unlocked_gaps;
  intention_alone = intention_alone;
  shared_go_early = shared_go_early;
  failed_go_early = failed_go_early;
  rollback_goes_early = rollback_goes_early;
  own_unseen = own_unseen;
  dead_unseen = dead_unseen;
  entries_go = entries_go;
  numbers_stay = numbers_stay;
  numbers_not_undone = numbers_not_undone;
  live_queued = live_queued;
  entries_taken_over = entries_taken_over;
}
