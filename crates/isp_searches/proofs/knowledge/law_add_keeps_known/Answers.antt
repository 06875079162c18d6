use Rattle.isp_searches.proofs.AddSearchLaws.{add_known}
use Rattle.isp_searches.proofs.knowledge.law_add_keeps_known.Goals as goal

pub returns : goal.returns
returns c = add_known
