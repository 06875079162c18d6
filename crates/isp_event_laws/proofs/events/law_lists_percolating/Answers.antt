use Rattle.isp_event_laws.proofs.PlacingLaws.{lists_percolating}
use Rattle.isp_event_laws.proofs.events.law_lists_percolating.Goals as goal

pub returns : goal.returns
returns c = lists_percolating
