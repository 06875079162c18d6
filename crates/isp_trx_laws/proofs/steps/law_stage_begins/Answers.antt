use Rattle.isp_trx_laws.proofs.StageLaws.{stage_begins}
use Rattle.isp_trx_laws.proofs.steps.law_stage_begins.Goals as goal

pub returns : goal.returns
returns c = stage_begins
