use Rattle.isp_trx_laws.proofs.StageLaws.{stage_creates}
use Rattle.isp_trx_laws.proofs.steps.law_stage_creates.Goals as goal

pub returns : goal.returns
returns c = stage_creates
