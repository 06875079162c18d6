use Rattle.isp_order_locks.proofs.CycleLaws.{no_cycle_kept}
use Rattle.isp_order_locks.proofs.locks.law_no_cycle_kept.Goals as goal

pub returns : goal.returns
returns c = no_cycle_kept
