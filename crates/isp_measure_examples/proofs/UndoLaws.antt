-- Both statements with undo entries counted, by computation.
use Rattle.std.proofs.Common.{inl, inr, refl, [], ◌∷◌, arith}
use Rattle.isp_waits.specs.Levels.{reaches, walk}
use Rattle.isp_geom.specs.Bounds.{points_of}
use Rattle.isp_geom.specs.Spelling.{spelling}
use Rattle.isp_events.specs.Next.{next}
use Rattle.isp_events.specs.Events.{acts}
use Rattle.isp_event_laws.proofs.EventTests.{follow_by_test, happen_by_test}
use Rattle.isp_event_examples.specs.Points.{five, puts_on}
use Rattle.isp_event_examples.specs.Overtaken.{overtaking}
use Rattle.isp_measure_examples.specs.UndoCounted.{UndoCountedIsNoMeasure, before_move, before_row, moving, moving_events}

pub undo_counted_is_no_measure : UndoCountedIsNoMeasure
unfolding next points_of spelling reaches walk
undo_counted_is_no_measure = record {
  insert_before = refl;
  insert_may = happen_by_test overtaking before_row (acts 2) (puts_on 16 (18 ∷ [])) refl;
  insert_behind = refl;
  moving_happen = follow_by_test moving 1 8 five moving_events refl;
  update_before = refl;
  update_may = happen_by_test moving before_move (acts 1) (puts_on 0 (18 ∷ [])) refl;
  update_behind = refl;
  update_raises = inr (refl, inr (refl, inr (refl, inr (refl, inr (refl, inr (refl, inr (refl, inr (refl, inr (refl, inl (omega arith))))))))));
}
