use Rattle.isp_searches.proofs.VisitSearchLaws.{visit_known}
use Rattle.isp_searches.proofs.knowledge.law_visit_keeps_known.Goals as goal

pub returns : goal.returns
returns c = visit_known
