use Rattle.isp_searches.proofs.VisitOnceLaws.{visits_once}
use Rattle.isp_searches.proofs.progress.law_visits_once.Goals as goal

pub returns : goal.returns
returns c = visits_once
