use Rattle.isp_file_laws.proofs.RowKeyLaws.{rows_are_short}
use Rattle.isp_file_laws.proofs.keys.law_rows_are_short.Goals as goal

pub returns : goal.returns
returns c = rows_are_short
