use Rattle.isp_searches.proofs.FoundLaws.{forgetting_known}
use Rattle.isp_searches.proofs.knowledge.law_forgetting_keeps_known.Goals as goal

pub returns : goal.returns
returns c = forgetting_known
