use Rattle.isp_searches.proofs.WrongStepLaws.{wrong_steps_miss}
use Rattle.isp_searches.proofs.examples.law_wrong_steps_miss.Goals as goal

pub returns : goal.returns
returns c = wrong_steps_miss
