use Rattle.isp_event_laws.proofs.PlacingLaws.{names_searches}
use Rattle.isp_event_laws.proofs.events.law_names_who_is_in_the_way.Goals as goal

pub returns : goal.returns
returns c = names_searches
