use Rattle.isp_script.proofs.LimitLaws.{within_limits}
use Rattle.isp_script.proofs.laws.law_within_limits.Goals as goal

pub returns : goal.returns
returns c = within_limits
