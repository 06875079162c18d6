use Rattle.isp_file_laws.proofs.RowKeyLaws.{get_sees_row}
use Rattle.isp_file_laws.proofs.keys.law_get_sees_row.Goals as goal

pub returns : goal.returns
returns c = get_sees_row
