use Rattle.isp_serial.proofs.AloneSerial.{alone_answers}
use Rattle.isp_serial.proofs.laws.law_alone_answers.Goals as goal

pub returns : goal.returns
returns c = alone_answers
