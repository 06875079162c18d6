use Rattle.isp_event_laws.proofs.PlacingLaws.{places_undisturbing}
use Rattle.isp_event_laws.proofs.events.law_places_undisturbing.Goals as goal

pub returns : goal.returns
returns c = places_undisturbing
