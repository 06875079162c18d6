use Rattle.isp_order_entries.proofs.NumberedLaws.{numbered_kept}
use Rattle.isp_order_entries.proofs.entries.law_numbered_kept.Goals as goal

pub returns : goal.returns
returns c = numbered_kept
