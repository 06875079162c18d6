use Rattle.isp_locality.proofs.Framing.{answers_are_framed}
use Rattle.isp_locality.proofs.local.law_answers_are_framed.Goals as goal

pub returns : goal.returns
returns c = answers_are_framed
