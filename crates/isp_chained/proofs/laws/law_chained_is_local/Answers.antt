use Rattle.isp_chained.proofs.LocalLaws.{chained_local}
use Rattle.isp_chained.proofs.laws.law_chained_is_local.Goals as goal

pub returns : goal.returns
returns c = chained_local
