use Rattle.isp_laws.proofs.RaiseLaws.{raise_keeps}
use Rattle.isp_leaf_laws.proofs.trees.law_raise_keeps_forest.Goals as goal

pub returns : goal.returns
returns c = λ tree q forest can. raise_keeps tree forest q can
