use Rattle.isp_searches.proofs.VisitsEndLaws.{visits_end}
use Rattle.isp_searches.proofs.progress.law_visits_end.Goals as goal

pub returns : goal.returns
returns c = visits_end
