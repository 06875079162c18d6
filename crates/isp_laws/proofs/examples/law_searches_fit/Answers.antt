use Rattle.isp_laws.proofs.ExampleLaws.{searches_fit}
use Rattle.isp_laws.proofs.examples.law_searches_fit.Goals as goal

pub returns : goal.returns
returns c = searches_fit
