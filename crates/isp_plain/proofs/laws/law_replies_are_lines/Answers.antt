use Rattle.isp_plain.proofs.LinedLaws.{does_line, does_lined}
use Rattle.isp_plain.proofs.laws.law_replies_are_lines.Goals as goal

pub returns : goal.returns
returns c = λ tables statement lined. (does_line tables statement lined, λ is. does_lined tables statement lined is)
