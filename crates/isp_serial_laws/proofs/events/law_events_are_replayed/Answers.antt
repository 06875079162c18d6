use Rattle.isp_serial_laws.proofs.EventLaws.{events_are_replayed}
use Rattle.isp_serial_laws.proofs.events.law_events_are_replayed.Goals as goal

pub returns : goal.returns
returns c = events_are_replayed
