use Rattle.isp_trx_laws.proofs.MarkLaws.{sweep_leaves_none}
use Rattle.isp_trx_laws.proofs.keys.law_sweep_leaves_none.Goals as goal

pub returns : goal.returns
returns c = sweep_leaves_none
