use Rattle.isp_order_trees.proofs.MissedLaws.{nothing_missed}
use Rattle.isp_order_trees.proofs.searches.law_nothing_committed_is_missed.Goals as goal

pub returns : goal.returns
returns c = nothing_missed
