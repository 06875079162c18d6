use Rattle.isp_order_one.proofs.NamedLaws.{named_kept}
use Rattle.isp_order_one.proofs.status.law_named_kept.Goals as goal

pub returns : goal.returns
returns c = named_kept
