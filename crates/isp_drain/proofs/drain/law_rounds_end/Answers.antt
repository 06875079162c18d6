use Rattle.isp_drain.proofs.RoundLaws.{rounds_end}
use Rattle.isp_drain.proofs.drain.law_rounds_end.Goals as goal

pub returns : goal.returns
returns c = rounds_end
