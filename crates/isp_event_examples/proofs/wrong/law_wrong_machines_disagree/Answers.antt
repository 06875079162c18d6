use Rattle.isp_event_examples.proofs.WrongLaws.{wrong_machines_disagree}
use Rattle.isp_event_examples.proofs.wrong.law_wrong_machines_disagree.Goals as goal

pub returns : goal.returns
returns c = wrong_machines_disagree
