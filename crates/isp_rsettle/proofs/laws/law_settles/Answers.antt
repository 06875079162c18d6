use Rattle.isp_rsettle.proofs.SettleLaws.{settles}
use Rattle.isp_rsettle.proofs.laws.law_settles.Goals as goal

pub returns : goal.returns
returns c = settles
