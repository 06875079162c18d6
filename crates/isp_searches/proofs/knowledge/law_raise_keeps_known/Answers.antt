use Rattle.isp_searches.proofs.RaiseSearchLaws.{raise_known}
use Rattle.isp_searches.proofs.knowledge.law_raise_keeps_known.Goals as goal

pub returns : goal.returns
returns c = raise_known
