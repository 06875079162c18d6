use Rattle.isp_order_locks.proofs.LockedLaws.{locked_kept}
use Rattle.isp_order_locks.proofs.locks.law_locked_kept.Goals as goal

pub returns : goal.returns
returns c = locked_kept
