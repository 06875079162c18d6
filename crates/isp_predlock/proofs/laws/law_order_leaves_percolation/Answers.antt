use Rattle.isp_predlock.proofs.AlikeLaws.{order_leaves}
use Rattle.isp_predlock.proofs.laws.law_order_leaves_percolation.Goals as goal

pub returns : goal.returns
returns c = order_leaves
