use Rattle.isp_leaf_laws.proofs.StayLaws.{empty_forest}
use Rattle.isp_leaf_laws.proofs.trees.law_empty_is_forest.Goals as goal

pub returns : goal.returns
returns c = empty_forest
