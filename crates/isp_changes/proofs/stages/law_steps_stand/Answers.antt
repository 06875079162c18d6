use Rattle.isp_changes.proofs.StageProofs.{steps_stand}
use Rattle.isp_changes.proofs.stages.law_steps_stand.Goals as goal

pub returns : goal.returns
returns c = steps_stand
