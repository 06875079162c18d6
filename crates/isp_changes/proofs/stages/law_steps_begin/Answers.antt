use Rattle.isp_changes.proofs.StageProofs.{steps_begin}
use Rattle.isp_changes.proofs.stages.law_steps_begin.Goals as goal

pub returns : goal.returns
returns c = steps_begin
