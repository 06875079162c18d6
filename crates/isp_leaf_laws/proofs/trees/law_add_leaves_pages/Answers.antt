use Rattle.isp_leaf_laws.proofs.StayLaws.{add_stays}
use Rattle.isp_leaf_laws.proofs.trees.law_add_leaves_pages.Goals as goal

pub returns : goal.returns
returns c = add_stays
