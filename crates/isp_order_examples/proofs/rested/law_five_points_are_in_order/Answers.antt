use Rattle.isp_order_examples.proofs.RestedPointLaws.{five_points_are_in_order}
use Rattle.isp_order_examples.proofs.rested.law_five_points_are_in_order.Goals as goal

pub returns : goal.returns
returns c = five_points_are_in_order
