use Rattle.isp_file_laws.proofs.KeptLaws.{kept_is_plain}
use Rattle.isp_file_laws.proofs.tables.law_kept_is_plain.Goals as goal

pub returns : goal.returns
returns c = kept_is_plain
