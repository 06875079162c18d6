use Rattle.isp_order_lines.proofs.ToldLaws.{deadlocks_are_least}
use Rattle.isp_order_lines.proofs.lines.law_deadlocks_are_least.Goals as goal

pub returns : goal.returns
returns c = deadlocks_are_least
