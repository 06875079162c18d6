use Rattle.isp_searches.proofs.WrongStepLaws.{rows_missed}
use Rattle.isp_searches.proofs.examples.law_rows_missed.Goals as goal

pub returns : goal.returns
returns c = rows_missed
