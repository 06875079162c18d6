use Rattle.isp_predlock.proofs.TestedLaws.{tested_on_path}
use Rattle.isp_predlock.proofs.laws.law_tested_on_path.Goals as goal

pub returns : goal.returns
returns c = tested_on_path
