use Rattle.isp_changes.proofs.RowProofs.{rows_mapped}
use Rattle.isp_changes.proofs.rows.law_rows_mapped.Goals as goal

pub returns : goal.returns
returns c = rows_mapped
