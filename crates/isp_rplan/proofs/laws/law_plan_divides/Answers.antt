use Rattle.isp_rplan.proofs.DivideLaws.{plan_divides}
use Rattle.isp_rplan.proofs.laws.law_plan_divides.Goals as goal

pub returns : goal.returns
returns c = plan_divides
