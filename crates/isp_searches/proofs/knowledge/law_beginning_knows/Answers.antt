use Rattle.isp_searches.proofs.VisitSearchLaws.{begun_known}
use Rattle.isp_searches.proofs.knowledge.law_beginning_knows.Goals as goal

pub returns : goal.returns
returns c = begun_known
