use Rattle.isp_leaf_laws.proofs.LeafLaws.{add_on_leaves, add_numbers}
use Rattle.isp_leaf_laws.proofs.leaves.law_add_on_leaves.Goals as goal

pub returns : goal.returns
returns c = λ tree path box key number forest stands. (add_on_leaves tree path box key number stands, add_numbers tree path box key number forest stands)
