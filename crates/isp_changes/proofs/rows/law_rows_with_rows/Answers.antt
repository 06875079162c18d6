use Rattle.isp_changes.proofs.RowProofs.{rows_with_rows}
use Rattle.isp_changes.proofs.rows.law_rows_with_rows.Goals as goal

pub returns : goal.returns
returns c = rows_with_rows
