use Rattle.isp_measure_examples.proofs.UndoLaws.{undo_counted_is_no_measure}
use Rattle.isp_measure_examples.proofs.other.law_undo_counted_is_no_measure.Goals as goal

pub returns : goal.returns
returns c = undo_counted_is_no_measure
