use Rattle.isp_script.proofs.BadLaws.{one_bad_line}
use Rattle.isp_script.proofs.laws.law_one_bad_line.Goals as goal

pub returns : goal.returns
returns c = one_bad_line
