use Rattle.isp_searches.proofs.FoundLaws.{found_all}
use Rattle.isp_searches.proofs.knowledge.law_found_all.Goals as goal

pub returns : goal.returns
returns c = found_all
