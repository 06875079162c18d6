use Rattle.isp_laws.proofs.AddLaws.{add_keeps}
use Rattle.isp_leaf_laws.proofs.trees.law_add_keeps_forest.Goals as goal

pub returns : goal.returns
returns c = add_keeps
