use Rattle.isp_order_examples.proofs.BrokenLaws.{deadlock_is_in_order}
use Rattle.isp_order_examples.proofs.rested.law_deadlock_is_in_order.Goals as goal

pub returns : goal.returns
returns c = deadlock_is_in_order
