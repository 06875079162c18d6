use Rattle.isp_chained.proofs.AloneLaws.{alone_one}
use Rattle.isp_chained.proofs.laws.law_alone_is_one.Goals as goal

pub returns : goal.returns
returns c = alone_one
