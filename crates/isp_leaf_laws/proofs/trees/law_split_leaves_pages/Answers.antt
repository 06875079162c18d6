use Rattle.isp_leaf_laws.proofs.StayLaws.{split_stays}
use Rattle.isp_leaf_laws.proofs.trees.law_split_leaves_pages.Goals as goal

pub returns : goal.returns
returns c = split_stays
