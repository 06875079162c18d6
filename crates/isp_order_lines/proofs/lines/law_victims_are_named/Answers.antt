use Rattle.isp_order_lines.proofs.VictimLists.{victims_are_named}
use Rattle.isp_order_lines.proofs.lines.law_victims_are_named.Goals as goal

pub returns : goal.returns
returns c = victims_are_named
