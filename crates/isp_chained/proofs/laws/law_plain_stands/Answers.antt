use Rattle.isp_chained.proofs.PlainLaws.{plain_stands}
use Rattle.isp_chained.proofs.laws.law_plain_stands.Goals as goal

pub returns : goal.returns
returns c = plain_stands
