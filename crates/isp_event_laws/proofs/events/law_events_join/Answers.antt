use Rattle.isp_event_laws.proofs.RunLaws.{events_join}
use Rattle.isp_event_laws.proofs.events.law_events_join.Goals as goal

pub returns : goal.returns
returns c = events_join
