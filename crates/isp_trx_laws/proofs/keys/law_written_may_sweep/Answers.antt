use Rattle.isp_trx_laws.proofs.MarkLaws.{written_may_sweep}
use Rattle.isp_trx_laws.proofs.keys.law_written_may_sweep.Goals as goal

pub returns : goal.returns
returns c = written_may_sweep
