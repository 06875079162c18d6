use Rattle.isp_chained.proofs.SlotLaws.{popped_holds}
use Rattle.isp_chained.proofs.laws.law_popping_holds.Goals as goal

pub returns : goal.returns
returns c = popped_holds
