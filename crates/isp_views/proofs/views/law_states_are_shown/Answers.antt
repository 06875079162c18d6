use Rattle.isp_views.proofs.ViewLaws.{states_are_shown}
use Rattle.isp_views.proofs.views.law_states_are_shown.Goals as goal

pub returns : goal.returns
returns c = states_are_shown
