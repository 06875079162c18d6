use Rattle.isp_order_lines.proofs.ToldLaws.{answers_are_numbered}
use Rattle.isp_order_lines.proofs.lines.law_answers_are_numbered.Goals as goal

pub returns : goal.returns
returns c = answers_are_numbered
