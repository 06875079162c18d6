use Rattle.isp_order_keyed.proofs.KeyedLaws.{keyed_kept}
use Rattle.isp_order_keyed.proofs.keyed.law_keyed_kept.Goals as goal

pub returns : goal.returns
returns c = keyed_kept
