use Rattle.isp_trx_laws.proofs.MarkLaws.{undo_adds_none}
use Rattle.isp_trx_laws.proofs.keys.law_undo_adds_none.Goals as goal

pub returns : goal.returns
returns c = undo_adds_none
