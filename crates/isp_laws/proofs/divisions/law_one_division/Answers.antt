use Rattle.isp_laws.proofs.OneLaws.{one_division}
use Rattle.isp_laws.proofs.divisions.law_one_division.Goals as goal

pub returns : goal.returns
returns c = one_division
