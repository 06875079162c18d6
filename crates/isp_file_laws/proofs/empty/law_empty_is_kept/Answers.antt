use Rattle.isp_file_laws.proofs.EmptyLaws.{empty_is_kept}
use Rattle.isp_file_laws.proofs.empty.law_empty_is_kept.Goals as goal

pub returns : goal.returns
returns c = empty_is_kept
