use Rattle.isp_order_status.proofs.NotedLaws.{noted_kept}
use Rattle.isp_order_status.proofs.status.law_noted_kept.Goals as goal

pub returns : goal.returns
returns c = noted_kept
