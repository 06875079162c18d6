use Rattle.isp_searches.proofs.WrongStepLaws.{runs_fit}
use Rattle.isp_searches.proofs.examples.law_runs_fit.Goals as goal

pub returns : goal.returns
returns c = runs_fit
