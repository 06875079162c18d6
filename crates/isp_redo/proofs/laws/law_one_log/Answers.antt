use Rattle.isp_format.proofs.LogOnce.{log_once}
use Rattle.isp_redo.proofs.laws.law_one_log.Goals as goal

pub returns : goal.returns
returns c pages log one other end then_end few one_is other_is = log_once pages log 0 one other end then_end few one_is other_is
