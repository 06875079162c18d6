use Rattle.isp_serial_runs.proofs.RunProofs.{run_is_serial}
use Rattle.isp_serial_runs.proofs.runs.law_run_is_serial.Goals as goal

pub returns : goal.returns
returns c = run_is_serial
