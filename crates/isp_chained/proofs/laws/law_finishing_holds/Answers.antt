use Rattle.isp_chained.proofs.SlotLaws.{finished_holds}
use Rattle.isp_chained.proofs.laws.law_finishing_holds.Goals as goal

pub returns : goal.returns
returns c = finished_holds
