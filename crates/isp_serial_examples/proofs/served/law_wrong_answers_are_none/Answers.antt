use Rattle.isp_serial_examples.proofs.ServedLaws.{wrong_answers_are_none}
use Rattle.isp_serial_examples.proofs.served.law_wrong_answers_are_none.Goals as goal

pub returns : goal.returns
returns c = wrong_answers_are_none
