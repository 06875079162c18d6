use Rattle.isp_chained.proofs.DisjointLaws.{finishing_disjoint}
use Rattle.isp_chained.proofs.laws.law_finishing_keeps_disjoint.Goals as goal

pub returns : goal.returns
returns c = finishing_disjoint
