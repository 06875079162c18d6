use Rattle.isp_serial.proofs.AloneSerial.{full_decides}
use Rattle.isp_serial.proofs.laws.law_full_decides.Goals as goal

pub returns : goal.returns
returns c = full_decides
