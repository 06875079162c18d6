use Rattle.isp_order_examples.proofs.BrokenLaws.{wrong_events_break}
use Rattle.isp_order_examples.proofs.broken.law_wrong_events_break.Goals as goal

pub returns : goal.returns
returns c = wrong_events_break
