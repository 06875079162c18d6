use Rattle.isp_order_entries.proofs.RestorableLaws.{restorable_kept}
use Rattle.isp_order_entries.proofs.entries.law_restorable_kept.Goals as goal

pub returns : goal.returns
returns c = restorable_kept
