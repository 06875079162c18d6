use Rattle.isp_file_laws.proofs.EmptyLaws.{empty_stands_for_none}
use Rattle.isp_file_laws.proofs.empty.law_empty_stands_for_none.Goals as goal

pub returns : goal.returns
returns c = empty_stands_for_none
