use Rattle.isp_order_trees.proofs.KnownLaws.{known_kept}
use Rattle.isp_order_trees.proofs.trees.law_known_kept.Goals as goal

pub returns : goal.returns
returns c = known_kept
