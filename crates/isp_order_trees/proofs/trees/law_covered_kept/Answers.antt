use Rattle.isp_order_trees.proofs.CoveredLaws.{covered_kept}
use Rattle.isp_order_trees.proofs.trees.law_covered_kept.Goals as goal

pub returns : goal.returns
returns c = covered_kept
