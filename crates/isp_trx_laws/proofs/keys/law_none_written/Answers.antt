use Rattle.isp_trx_laws.proofs.MarkLaws.{none_written}
use Rattle.isp_trx_laws.proofs.keys.law_none_written.Goals as goal

pub returns : goal.returns
returns c = none_written
