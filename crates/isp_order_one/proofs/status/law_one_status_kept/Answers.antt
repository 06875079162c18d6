use Rattle.isp_order_one.proofs.OneStatusLaws.{one_status_kept}
use Rattle.isp_order_one.proofs.status.law_one_status_kept.Goals as goal

pub returns : goal.returns
returns c = one_status_kept
