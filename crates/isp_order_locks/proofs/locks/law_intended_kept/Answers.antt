use Rattle.isp_order_locks.proofs.IntendedLaws.{intended_kept}
use Rattle.isp_order_locks.proofs.locks.law_intended_kept.Goals as goal

pub returns : goal.returns
returns c = intended_kept
