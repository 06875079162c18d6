use Rattle.isp_serial.proofs.AloneSerial.{alone_is_serial}
use Rattle.isp_serial.proofs.laws.law_alone_is_serial.Goals as goal

pub returns : goal.returns
returns c = alone_is_serial
