use Rattle.isp_drain.proofs.RoundLaws.{drain_ends}
use Rattle.isp_drain.proofs.drain.law_drain_ends.Goals as goal

pub returns : goal.returns
returns c = drain_ends
