use Rattle.isp_chained.proofs.AloneLaws.{alone_none}
use Rattle.isp_chained.proofs.laws.law_alone_is_none.Goals as goal

pub returns : goal.returns
returns c = alone_none
