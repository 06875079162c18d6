use Rattle.isp_run.proofs.SlotLaws.{script_has_slots}
use Rattle.isp_run.proofs.read.found_in.Goals as goal

pub returns-in-Ok-clause-slots : goal.returns-in-Ok-clause-slots
returns-in-Ok-clause-slots c = script_has_slots c.args.bytes.now c.in-Ok.script c.in-Ok.ensures.found
