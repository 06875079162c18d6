use Rattle.isp_leaf_laws.proofs.LeafLaws.{raise_on_leaves, raise_numbers}
use Rattle.isp_leaf_laws.proofs.leaves.law_raise_on_leaves.Goals as goal

pub returns : goal.returns
returns c = λ tree q forest free. (raise_on_leaves tree forest q free, raise_numbers tree forest q free)
