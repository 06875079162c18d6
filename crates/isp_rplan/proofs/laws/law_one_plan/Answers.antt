use Rattle.isp_rplan.proofs.OneLaws.{one_plan}
use Rattle.isp_rplan.proofs.laws.law_one_plan.Goals as goal

pub returns : goal.returns
returns c = one_plan
