use Rattle.isp_event_examples.proofs.RightLaws.{right_answers_agree}
use Rattle.isp_event_examples.proofs.worked.law_right_answers_agree.Goals as goal

pub returns : goal.returns
returns c = right_answers_agree
