use Rattle.isp_chained.proofs.OrderLaws.{pushing_notes}
use Rattle.isp_chained.proofs.laws.law_pushing_notes.Goals as goal

pub returns : goal.returns
returns c = pushing_notes
