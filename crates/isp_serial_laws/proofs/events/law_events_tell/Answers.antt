use Rattle.isp_serial_laws.proofs.EventLaws.{events_tell}
use Rattle.isp_serial_laws.proofs.events.law_events_tell.Goals as goal

pub returns : goal.returns
returns c = events_tell
