use Rattle.isp_searches.proofs.CopyOrderLaws.{raise_first}
use Rattle.isp_searches.proofs.reach.law_raise_may_come_first.Goals as goal

pub returns : goal.returns
returns c = raise_first
