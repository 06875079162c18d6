use Rattle.isp_mbr.proofs.Pruning.{may_hold_of_satisfying}
use Rattle.isp_mbr.proofs.laws.law_may_hold_of_satisfying.Goals as goal

pub returns : goal.returns
returns c = may_hold_of_satisfying
