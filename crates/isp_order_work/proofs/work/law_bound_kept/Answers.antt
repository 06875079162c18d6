use Rattle.isp_order_work.proofs.BoundLaws.{bound_kept}
use Rattle.isp_order_work.proofs.work.law_bound_kept.Goals as goal

pub returns : goal.returns
returns c = bound_kept
