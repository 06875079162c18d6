use Rattle.isp_event_examples.proofs.FurtherLaws.{further_runs_fit}
use Rattle.isp_event_examples.proofs.worked.law_further_runs_fit.Goals as goal

pub returns : goal.returns
returns c = further_runs_fit
