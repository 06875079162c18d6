-- The worked rows, by computation.
use Rattle.std.proofs.Common.{◌≡◌, refl, true, List, ◌∷◌, ◌++◌}
use Rattle.std.specs.Fmt.{digits}
use Rattle.isp_waits.specs.Levels.{reaches, walk}
use Rattle.isp_geom.specs.Bounds.{points_of}
use Rattle.isp_geom.specs.Spelling.{spelling}
use Rattle.isp_wkt.specs.Printed.{printed}
use Rattle.isp_wkt.specs.Words.{word}
use Rattle.isp_plain.specs.Texts.{deadlock_text, end_text, full_text, ok_text}
use Rattle.isp_plain.specs.Refusals.{state, words}
use Rattle.isp_events.specs.Next.{next}
use Rattle.isp_events.specs.Events.{Choice, with_undo_pages}
use Rattle.isp_event_laws.proofs.RunTests.{whole, whole_runs}
use Rattle.isp_event_examples.specs.Points.{five, nothing}
use Rattle.isp_event_examples.specs.Overtaken.{SplitOvertakes, overtaking, overtaking_choices, overtaking_lines}
use Rattle.isp_event_examples.specs.Percolating.{PercolationStops, percolating, percolating_choices, percolating_lines}
use Rattle.isp_event_examples.specs.Deleting.{DeletingFits, committing, committing_lines, deleting_choices, rolling_back, rolling_back_lines}
use Rattle.isp_event_examples.specs.Deadlocked.{DeadlockFits, deadlocking, deadlocking_choices, deadlocking_lines}

good_overtaking : (whole overtaking 0 2 five overtaking_choices).good ≡ true
unfolding next points_of spelling reaches walk
good_overtaking = refl

told_overtaking : (whole overtaking 0 2 five overtaking_choices).lines ≡ overtaking_lines
unfolding next points_of spelling printed word digits ok_text end_text state words full_text deadlock_text
told_overtaking = refl

pub split_overtakes : SplitOvertakes
split_overtakes = ((whole overtaking 0 2 five overtaking_choices).left, whole_runs overtaking 0 2 five overtaking_choices overtaking_lines refl good_overtaking told_overtaking)

good_percolating : (whole percolating 0 1 five percolating_choices).good ≡ true
unfolding next points_of spelling reaches walk
good_percolating = refl

told_percolating : (whole percolating 0 1 five percolating_choices).lines ≡ percolating_lines
unfolding next points_of spelling printed word digits ok_text end_text state words full_text deadlock_text
told_percolating = refl

pub percolation_stops : PercolationStops
percolation_stops = ((whole percolating 0 1 five percolating_choices).left, whole_runs percolating 0 1 five percolating_choices percolating_lines refl good_percolating told_percolating)

abbrev back_choices : List Choice
back_choices = deleting_choices ++ (with_undo_pages 0 ∷ nothing 5)

abbrev commit_choices : List Choice
commit_choices = deleting_choices ++ nothing 7

good_rolling_back : (whole rolling_back 0 1 five back_choices).good ≡ true
unfolding next points_of spelling reaches walk
good_rolling_back = refl

told_rolling_back : (whole rolling_back 0 1 five back_choices).lines ≡ rolling_back_lines
unfolding next points_of spelling printed word digits ok_text end_text state words full_text deadlock_text
told_rolling_back = refl

good_committing : (whole committing 0 1 five commit_choices).good ≡ true
unfolding next points_of spelling reaches walk
good_committing = refl

told_committing : (whole committing 0 1 five commit_choices).lines ≡ committing_lines
unfolding next points_of spelling printed word digits ok_text end_text state words full_text deadlock_text
told_committing = refl

pub deleting_fits : DeletingFits
unfolding next points_of spelling
deleting_fits = record {
  rolled_back = ((whole rolling_back 0 1 five back_choices).left, whole_runs rolling_back 0 1 five back_choices rolling_back_lines refl good_rolling_back told_rolling_back);
  commits = ((whole committing 0 1 five commit_choices).left, whole_runs committing 0 1 five commit_choices committing_lines refl good_committing told_committing);
  committed_then = refl;
  seen_then = refl;
  seen_at_beginning = refl;
  seen_by_other = refl;
  seen_behind_answer = refl;
}

good_deadlocking : (whole deadlocking 0 4 five deadlocking_choices).good ≡ true
unfolding next points_of spelling reaches walk
good_deadlocking = refl

told_deadlocking : (whole deadlocking 0 4 five deadlocking_choices).lines ≡ deadlocking_lines
unfolding next points_of spelling printed word digits ok_text end_text state words full_text deadlock_text
told_deadlocking = refl

pub deadlock_fits : DeadlockFits
unfolding ok_text end_text deadlock_text digits state words
deadlock_fits = record {
  run = ((whole deadlocking 0 4 five deadlocking_choices).left, whole_runs deadlocking 0 4 five deadlocking_choices deadlocking_lines refl good_deadlocking told_deadlocking);
  before = refl;
  one_waits = refl;
  both_wait = refl;
  victim_gives_way = refl;
  after_its_answer = refl;
}
