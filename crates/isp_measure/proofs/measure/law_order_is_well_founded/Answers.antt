use Rattle.isp_measure.proofs.OrderLaws.{order_is_well_founded}
use Rattle.isp_measure.proofs.measure.law_order_is_well_founded.Goals as goal

pub returns : goal.returns
returns c = order_is_well_founded
