use Rattle.isp_leaf_laws.proofs.DepthLaws.{deep_is_large}
use Rattle.isp_leaf_laws.proofs.trees.law_deep_is_large.Goals as goal

pub returns : goal.returns
returns c = deep_is_large
