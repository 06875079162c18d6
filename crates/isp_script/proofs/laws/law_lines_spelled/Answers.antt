use Rattle.isp_script.proofs.LineLaws.{lines_spelled}
use Rattle.isp_script.proofs.laws.law_lines_spelled.Goals as goal

pub returns : goal.returns
returns c = lines_spelled
