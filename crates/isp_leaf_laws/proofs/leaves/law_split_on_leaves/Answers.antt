use Rattle.isp_leaf_laws.proofs.LeafLaws.{split_on_leaves, split_numbers}
use Rattle.isp_leaf_laws.proofs.leaves.law_split_on_leaves.Goals as goal

pub returns : goal.returns
returns c = λ tree o above left right n forest can. (split_on_leaves tree o above left right n forest can, split_numbers tree o above left right n forest can)
