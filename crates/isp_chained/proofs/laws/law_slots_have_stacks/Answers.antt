use Rattle.isp_chained.proofs.SlotLaws.{stack_of}
use Rattle.isp_chained.proofs.laws.law_slots_have_stacks.Goals as goal

pub returns : goal.returns
returns c = stack_of
