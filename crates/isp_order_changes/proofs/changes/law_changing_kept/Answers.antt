use Rattle.isp_order_changes.proofs.ChangingLaws.{changing_kept}
use Rattle.isp_order_changes.proofs.changes.law_changing_kept.Goals as goal

pub returns : goal.returns
returns c = changing_kept
