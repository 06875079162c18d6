use Rattle.isp_changes.proofs.StageProofs.{steps_fall}
use Rattle.isp_changes.proofs.stages.law_steps_fall.Goals as goal

pub returns : goal.returns
returns c = steps_fall
