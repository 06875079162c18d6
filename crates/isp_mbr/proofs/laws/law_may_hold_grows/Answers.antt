use Rattle.isp_mbr.proofs.Pruning.{may_hold_grows}
use Rattle.isp_mbr.proofs.laws.law_may_hold_grows.Goals as goal

pub returns : goal.returns
returns c = may_hold_grows
