use Rattle.isp_locality.proofs.Framing.{replays_are_framed}
use Rattle.isp_locality.proofs.local.law_replays_are_framed.Goals as goal

pub returns : goal.returns
returns c = replays_are_framed
