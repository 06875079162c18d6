use Rattle.isp_leaf_laws.proofs.StayLaws.{remove_stays}
use Rattle.isp_leaf_laws.proofs.trees.law_remove_leaves_pages.Goals as goal

pub returns : goal.returns
returns c = remove_stays
