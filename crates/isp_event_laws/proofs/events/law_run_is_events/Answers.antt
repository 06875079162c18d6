use Rattle.isp_event_laws.proofs.RunLaws.{run_events}
use Rattle.isp_event_laws.proofs.events.law_run_is_events.Goals as goal

pub returns : goal.returns
returns c = run_events
