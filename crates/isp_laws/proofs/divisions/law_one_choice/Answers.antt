use Rattle.isp_laws.proofs.OneLaws.{one_choice}
use Rattle.isp_laws.proofs.divisions.law_one_choice.Goals as goal

pub returns : goal.returns
returns c = one_choice
