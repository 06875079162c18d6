use Rattle.isp_chained.proofs.PlainLaws.{chained_plain}
use Rattle.isp_chained.proofs.laws.law_chained_is_plain.Goals as goal

pub returns : goal.returns
returns c = chained_plain
