use Rattle.isp_searches.proofs.RaiseSearchLaws.{raise_covered}
use Rattle.isp_searches.proofs.reach.law_raise_keeps_covered.Goals as goal

pub returns : goal.returns
returns c = raise_covered
