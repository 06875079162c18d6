use Rattle.isp_trx_laws.proofs.MarkLaws.{write_adds_key}
use Rattle.isp_trx_laws.proofs.keys.law_write_adds_key.Goals as goal

pub returns : goal.returns
returns c = write_adds_key
