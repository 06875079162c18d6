use Rattle.isp_order_work.proofs.BeforeLaws.{before_kept}
use Rattle.isp_order_work.proofs.work.law_before_kept.Goals as goal

pub returns : goal.returns
returns c = before_kept
