use Rattle.isp_serial_runs.proofs.RunProofs.{events_are_serial}
use Rattle.isp_serial_runs.proofs.runs.law_events_are_serial.Goals as goal

pub returns : goal.returns
returns c = events_are_serial
