use Rattle.isp_leaf_laws.proofs.StayLaws.{raise_stays}
use Rattle.isp_leaf_laws.proofs.trees.law_raise_leaves_pages.Goals as goal

pub returns : goal.returns
returns c = λ tree q forest free. raise_stays tree forest q free
