use Rattle.isp_serial.specs.Serial.{none_pending}
use Rattle.isp_event_laws.proofs.SerialLaws.{serial_computes}
use Rattle.isp_event_laws.proofs.serial.law_serial_computes.Goals as goal

pub returns : goal.returns
returns c = λ language script before answers after left h. serial_computes language script before none_pending answers after left h
