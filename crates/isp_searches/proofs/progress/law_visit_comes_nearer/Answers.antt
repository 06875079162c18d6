use Rattle.isp_searches.proofs.VisitsEndLaws.{visit_nearer}
use Rattle.isp_searches.proofs.progress.law_visit_comes_nearer.Goals as goal

pub returns : goal.returns
returns c = visit_nearer
