use Rattle.isp_chained.proofs.DisjointLaws.{pushing_disjoint}
use Rattle.isp_chained.proofs.laws.law_pushing_keeps_disjoint.Goals as goal

pub returns : goal.returns
returns c = pushing_disjoint
