use Rattle.isp_answers.proofs.RestedLaws.{rested_told}
use Rattle.isp_answers.proofs.told.law_rested_is_told.Goals as goal

pub returns : goal.returns
returns c = rested_told
