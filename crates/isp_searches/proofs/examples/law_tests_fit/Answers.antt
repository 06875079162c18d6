use Rattle.isp_searches.proofs.WrongStepLaws.{tests_fit}
use Rattle.isp_searches.proofs.examples.law_tests_fit.Goals as goal

pub returns : goal.returns
returns c = tests_fit
