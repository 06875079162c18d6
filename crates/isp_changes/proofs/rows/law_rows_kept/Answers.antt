use Rattle.isp_changes.proofs.RowProofs.{rows_kept}
use Rattle.isp_changes.proofs.rows.law_rows_kept.Goals as goal

pub returns : goal.returns
returns c = rows_kept
