use Rattle.isp_order_entries.proofs.EnteredLaws.{entered_kept}
use Rattle.isp_order_entries.proofs.entries.law_entered_kept.Goals as goal

pub returns : goal.returns
returns c = entered_kept
