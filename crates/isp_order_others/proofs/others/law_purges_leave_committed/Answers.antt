use Rattle.isp_order_others.proofs.CommittedFrames.{purges_leave_committed}
use Rattle.isp_order_others.proofs.others.law_purges_leave_committed.Goals as goal

pub returns : goal.returns
returns c = purges_leave_committed
