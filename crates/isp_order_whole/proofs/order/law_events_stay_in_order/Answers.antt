use Rattle.isp_order_whole.proofs.WholeLaws.{stays_in_order}
use Rattle.isp_order_whole.proofs.order.law_events_stay_in_order.Goals as goal

pub returns : goal.returns
returns c = stays_in_order
