use Rattle.isp_laws.proofs.ExampleLaws.{examples_fit}
use Rattle.isp_laws.proofs.examples.law_examples_fit.Goals as goal

pub returns : goal.returns
returns c = examples_fit
