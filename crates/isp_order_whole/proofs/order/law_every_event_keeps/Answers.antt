use Rattle.isp_order_whole.proofs.WholeLaws.{order_kept}
use Rattle.isp_order_whole.proofs.order.law_every_event_keeps.Goals as goal

pub returns : goal.returns
returns c = order_kept
