use Rattle.isp_order_locks.proofs.IdleLaws.{idle_kept}
use Rattle.isp_order_locks.proofs.locks.law_idle_kept.Goals as goal

pub returns : goal.returns
returns c = idle_kept
