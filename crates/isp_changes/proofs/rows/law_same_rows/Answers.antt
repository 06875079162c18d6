use Rattle.isp_changes.proofs.RowProofs.{same_rows}
use Rattle.isp_changes.proofs.rows.law_same_rows.Goals as goal

pub returns : goal.returns
returns c = same_rows
