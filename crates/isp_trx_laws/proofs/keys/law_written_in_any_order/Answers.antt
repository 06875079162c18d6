use Rattle.isp_trx_laws.proofs.MarkLaws.{written_in_any_order}
use Rattle.isp_trx_laws.proofs.keys.law_written_in_any_order.Goals as goal

pub returns : goal.returns
returns c = written_in_any_order
