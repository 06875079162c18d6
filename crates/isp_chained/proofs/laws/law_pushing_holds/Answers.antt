use Rattle.isp_chained.proofs.SlotLaws.{pushed_holds}
use Rattle.isp_chained.proofs.laws.law_pushing_holds.Goals as goal

pub returns : goal.returns
returns c = pushed_holds
