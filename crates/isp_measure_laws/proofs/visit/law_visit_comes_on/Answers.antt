use Rattle.isp_measure_laws.proofs.SearchFalls.{visit_comes_on}
use Rattle.isp_measure_laws.proofs.visit.law_visit_comes_on.Goals as goal

pub returns : goal.returns
returns c = visit_comes_on
