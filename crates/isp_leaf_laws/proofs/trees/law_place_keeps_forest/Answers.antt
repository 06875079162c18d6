use Rattle.isp_laws.proofs.PlaceLaws.{place_forest}
use Rattle.isp_leaf_laws.proofs.trees.law_place_keeps_forest.Goals as goal

pub returns : goal.returns
returns c = place_forest
