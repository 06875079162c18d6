use Rattle.isp_measure_examples.proofs.FallingLaws.{overtaking_falls}
use Rattle.isp_measure_examples.proofs.falling.law_overtaking_falls.Goals as goal

pub returns : goal.returns
returns c = overtaking_falls
