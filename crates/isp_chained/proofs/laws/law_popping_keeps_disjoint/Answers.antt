use Rattle.isp_chained.proofs.DisjointLaws.{popping_disjoint}
use Rattle.isp_chained.proofs.laws.law_popping_keeps_disjoint.Goals as goal

pub returns : goal.returns
returns c = popping_disjoint
