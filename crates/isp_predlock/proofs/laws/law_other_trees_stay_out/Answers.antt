use Rattle.isp_predlock.proofs.AlikeLaws.{others_stay_out}
use Rattle.isp_predlock.proofs.laws.law_other_trees_stay_out.Goals as goal

pub returns : goal.returns
returns c = others_stay_out
