use Rattle.isp_chained.proofs.PlainLaws.{plain_chained}
use Rattle.isp_chained.proofs.laws.law_plain_is_chained.Goals as goal

pub returns : goal.returns
returns c = plain_chained
