use Rattle.isp_trx_laws.proofs.StageLaws.{stage_undoes}
use Rattle.isp_trx_laws.proofs.steps.law_stage_undoes.Goals as goal

pub returns : goal.returns
returns c = stage_undoes
