use Rattle.isp_row.proofs.ReadLaws.{one_row}
use Rattle.isp_row.proofs.laws.law_bytes_are_one_row.Goals as goal

pub returns : goal.returns
returns c = one_row
