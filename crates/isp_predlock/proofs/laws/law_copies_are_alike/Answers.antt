use Rattle.isp_predlock.proofs.AlikeLaws.{copies_alike}
use Rattle.isp_predlock.proofs.laws.law_copies_are_alike.Goals as goal

pub returns : goal.returns
returns c = copies_alike
