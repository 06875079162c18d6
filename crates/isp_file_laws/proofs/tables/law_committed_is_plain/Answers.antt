use Rattle.isp_file_laws.proofs.KeptLaws.{committed_is_plain}
use Rattle.isp_file_laws.proofs.tables.law_committed_is_plain.Goals as goal

pub returns : goal.returns
returns c = committed_is_plain
