use Rattle.isp_laws.proofs.SplitLaws.{split_keeps}
use Rattle.isp_leaf_laws.proofs.trees.law_split_keeps_forest.Goals as goal

pub returns : goal.returns
returns c = split_keeps
