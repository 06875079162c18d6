use Rattle.isp_order_others.proofs.SessionFrames.{others_left}
use Rattle.isp_order_others.proofs.others.law_others_are_left.Goals as goal

pub returns : goal.returns
returns c = others_left
