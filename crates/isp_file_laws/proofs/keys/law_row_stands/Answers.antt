use Rattle.isp_file_laws.proofs.RowKeyLaws.{row_stands}
use Rattle.isp_file_laws.proofs.keys.law_row_stands.Goals as goal

pub returns : goal.returns
returns c = row_stands
