use Rattle.isp_order_locks.proofs.CountLaws.{counted_kept}
use Rattle.isp_order_locks.proofs.locks.law_counted_kept.Goals as goal

pub returns : goal.returns
returns c = counted_kept
