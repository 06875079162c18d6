use Rattle.isp_changes.proofs.StageProofs.{steps_lead}
use Rattle.isp_changes.proofs.stages.law_steps_lead.Goals as goal

pub returns : goal.returns
returns c = steps_lead
