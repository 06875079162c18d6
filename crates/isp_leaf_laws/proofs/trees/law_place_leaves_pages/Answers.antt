use Rattle.isp_leaf_laws.proofs.StayLaws.{place_stays}
use Rattle.isp_leaf_laws.proofs.trees.law_place_leaves_pages.Goals as goal

pub returns : goal.returns
returns c = place_stays
