use Rattle.isp_order_lines.proofs.ToldLaws.{no_cycle_is_told}
use Rattle.isp_order_lines.proofs.lines.law_no_cycle_is_told.Goals as goal

pub returns : goal.returns
returns c = no_cycle_is_told
