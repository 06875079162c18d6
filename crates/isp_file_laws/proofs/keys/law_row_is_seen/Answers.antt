use Rattle.isp_file_laws.proofs.RowKeyLaws.{row_is_seen}
use Rattle.isp_file_laws.proofs.keys.law_row_is_seen.Goals as goal

pub returns : goal.returns
returns c = row_is_seen
