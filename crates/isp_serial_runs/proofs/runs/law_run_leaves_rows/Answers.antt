use Rattle.isp_serial_runs.proofs.RunProofs.{run_leaves_rows}
use Rattle.isp_serial_runs.proofs.runs.law_run_leaves_rows.Goals as goal

pub returns : goal.returns
returns c = run_leaves_rows
