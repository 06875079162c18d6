use Rattle.isp_order_locks.proofs.CompatibleLaws.{compatible_kept}
use Rattle.isp_order_locks.proofs.locks.law_compatible_kept.Goals as goal

pub returns : goal.returns
returns c = compatible_kept
