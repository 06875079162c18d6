use Rattle.isp_laws.proofs.RemoveLaws.{remove_keeps}
use Rattle.isp_leaf_laws.proofs.trees.law_remove_keeps_forest.Goals as goal

pub returns : goal.returns
returns c = remove_keeps
