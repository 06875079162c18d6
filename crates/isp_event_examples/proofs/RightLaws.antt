-- The answers of the worked runs are serial, by computation.
use Rattle.std.proofs.Common.{refl}
use Rattle.std.specs.Fmt.{digits}
use Rattle.isp_geom.specs.Bounds.{points_of}
use Rattle.isp_wkt.specs.Printed.{printed}
use Rattle.isp_wkt.specs.Words.{word}
use Rattle.isp_plain.specs.Texts.{deadlock_text, end_text, full_text, ok_text}
use Rattle.isp_plain.specs.Refusals.{state, words}
use Rattle.isp_event_examples.specs.RightAnswers.{RightAnswersAgree}

pub right_answers_agree : RightAnswersAgree
unfolding points_of printed word digits ok_text end_text full_text deadlock_text state words
right_answers_agree = record { overtaken = refl; percolated = refl; rolled_back = refl; committed = refl; deadlocked = refl }
