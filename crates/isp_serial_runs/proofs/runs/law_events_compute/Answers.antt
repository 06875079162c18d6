use Rattle.isp_serial_runs.proofs.RunProofs.{events_compute}
use Rattle.isp_serial_runs.proofs.runs.law_events_compute.Goals as goal

pub returns : goal.returns
returns c = events_compute
