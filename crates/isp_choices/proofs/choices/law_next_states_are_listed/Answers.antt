use Rattle.isp_choices.proofs.NextLaws.{next_states_are_listed}
use Rattle.isp_choices.proofs.choices.law_next_states_are_listed.Goals as goal

pub returns : goal.returns
returns c = next_states_are_listed
