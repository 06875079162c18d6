use Rattle.isp_order_locks.proofs.WaitingLaws.{waiting_kept}
use Rattle.isp_order_locks.proofs.locks.law_waiting_kept.Goals as goal

pub returns : goal.returns
returns c = waiting_kept
