use Rattle.isp_serial_examples.proofs.ServedLaws.{overtaking_is_serial}
use Rattle.isp_serial_examples.proofs.served.law_overtaking_is_serial.Goals as goal

pub returns : goal.returns
returns c = overtaking_is_serial
