use Rattle.isp_leaf_laws.proofs.LeafLaws.{remove_on_leaves, remove_numbers}
use Rattle.isp_leaf_laws.proofs.leaves.law_remove_on_leaves.Goals as goal

pub returns : goal.returns
returns c = λ tree number. (remove_on_leaves tree number, remove_numbers tree number)
