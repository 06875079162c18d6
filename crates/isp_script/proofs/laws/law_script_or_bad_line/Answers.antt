use Rattle.isp_script.proofs.BadLaws.{script_or_bad_line, not_both}
use Rattle.isp_script.proofs.laws.law_script_or_bad_line.Goals as goal

pub returns-clause-either : goal.returns-clause-either
returns-clause-either c = script_or_bad_line

pub returns-clause-not_both : goal.returns-clause-not_both
returns-clause-not_both c = not_both
