use Rattle.isp_drain.proofs.EventLaws.{events_end}
use Rattle.isp_drain.proofs.drain.law_events_end.Goals as goal

pub returns : goal.returns
returns c = events_end
