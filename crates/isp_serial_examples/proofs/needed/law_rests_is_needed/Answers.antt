use Rattle.isp_serial_examples.proofs.OutgrownLaws.{rests_is_needed}
use Rattle.isp_serial_examples.proofs.needed.law_rests_is_needed.Goals as goal

pub returns : goal.returns
returns c = rests_is_needed
