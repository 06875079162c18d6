use Rattle.isp_chained.proofs.OrderLaws.{stands_in_order}
use Rattle.isp_chained.proofs.laws.law_slots_stand_in_order.Goals as goal

pub returns : goal.returns
returns c = stands_in_order
