use Rattle.isp_searches.proofs.VisitSearchLaws.{visit_covered}
use Rattle.isp_searches.proofs.reach.law_visit_keeps_covered.Goals as goal

pub returns : goal.returns
returns c = visit_covered
