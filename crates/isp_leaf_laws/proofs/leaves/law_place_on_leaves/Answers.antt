use Rattle.isp_leaf_laws.proofs.LeafLaws.{place_on_leaves, place_numbers}
use Rattle.isp_leaf_laws.proofs.leaves.law_place_on_leaves.Goals as goal

pub returns : goal.returns
returns c = λ tree path box key number q ds forest stands is_box can. (place_on_leaves tree path box key number q ds forest stands is_box can, place_numbers tree path box key number q ds forest stands is_box can)
