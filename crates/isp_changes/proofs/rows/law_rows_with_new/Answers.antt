use Rattle.isp_changes.proofs.RowProofs.{rows_with_new}
use Rattle.isp_changes.proofs.rows.law_rows_with_new.Goals as goal

pub returns : goal.returns
returns c = rows_with_new
