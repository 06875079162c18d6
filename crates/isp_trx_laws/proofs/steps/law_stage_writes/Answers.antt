use Rattle.isp_trx_laws.proofs.StageLaws.{stage_writes}
use Rattle.isp_trx_laws.proofs.steps.law_stage_writes.Goals as goal

pub returns : goal.returns
returns c = stage_writes
