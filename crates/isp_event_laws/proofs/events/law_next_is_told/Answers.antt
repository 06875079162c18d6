use Rattle.isp_event_laws.proofs.TellLaws.{is_next}
use Rattle.isp_event_laws.proofs.events.law_next_is_told.Goals as goal

pub returns : goal.returns
returns c = is_next
