use Rattle.isp_order_trees.proofs.WholeLaws.{whole_kept}
use Rattle.isp_order_trees.proofs.trees.law_whole_kept.Goals as goal

pub returns : goal.returns
returns c = whole_kept
