use Rattle.isp_order_lines.proofs.ToldLaws.{victims_are_answered}
use Rattle.isp_order_lines.proofs.lines.law_victims_are_answered.Goals as goal

pub returns : goal.returns
returns c = victims_are_answered
