use Rattle.isp_order.proofs.RestedLaws.{in_order}
use Rattle.isp_order.proofs.rested.law_rested_is_in_order.Goals as goal

pub returns : goal.returns
returns c = in_order
