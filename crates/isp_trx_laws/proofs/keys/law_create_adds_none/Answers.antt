use Rattle.isp_trx_laws.proofs.MarkLaws.{create_adds_none}
use Rattle.isp_trx_laws.proofs.keys.law_create_adds_none.Goals as goal

pub returns : goal.returns
returns c = create_adds_none
