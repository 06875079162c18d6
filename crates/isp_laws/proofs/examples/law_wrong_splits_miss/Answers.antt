use Rattle.isp_laws.proofs.ExampleLaws.{wrong_splits_miss}
use Rattle.isp_laws.proofs.examples.law_wrong_splits_miss.Goals as goal

pub returns : goal.returns
returns c = wrong_splits_miss
