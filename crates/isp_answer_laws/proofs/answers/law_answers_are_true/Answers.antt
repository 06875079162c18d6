use Rattle.isp_answer_laws.proofs.TrueLaws.{answers_are_true}
use Rattle.isp_answer_laws.proofs.answers.law_answers_are_true.Goals as goal

pub returns : goal.returns
returns c = answers_are_true
