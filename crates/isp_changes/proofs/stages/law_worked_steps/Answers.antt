use Rattle.isp_changes.proofs.WorkedProofs.{worked_steps}
use Rattle.isp_changes.proofs.stages.law_worked_steps.Goals as goal

pub returns : goal.returns
returns c = worked_steps
