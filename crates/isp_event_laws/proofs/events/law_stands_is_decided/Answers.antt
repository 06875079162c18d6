use Rattle.isp_event_laws.proofs.StandsLaws.{stands_decided}
use Rattle.isp_event_laws.proofs.events.law_stands_is_decided.Goals as goal

pub returns : goal.returns
returns c = stands_decided
