use Rattle.isp_script.proofs.BadLaws.{one_script}
use Rattle.isp_script.proofs.laws.law_one_script.Goals as goal

pub returns : goal.returns
returns c = one_script
