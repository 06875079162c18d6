use Rattle.isp_order_lines.proofs.ToldLaws.{lines_tell_who_waits}
use Rattle.isp_order_lines.proofs.lines.law_lines_tell_who_waits.Goals as goal

pub returns : goal.returns
returns c = lines_tell_who_waits
