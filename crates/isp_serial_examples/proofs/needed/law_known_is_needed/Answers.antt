use Rattle.isp_serial_examples.proofs.NeededLaws.{known_is_needed}
use Rattle.isp_serial_examples.proofs.needed.law_known_is_needed.Goals as goal

pub returns : goal.returns
returns c = known_is_needed
