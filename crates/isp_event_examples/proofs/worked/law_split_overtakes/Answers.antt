use Rattle.isp_event_examples.proofs.WorkedRows.{split_overtakes}
use Rattle.isp_event_examples.proofs.worked.law_split_overtakes.Goals as goal

pub returns : goal.returns
returns c = split_overtakes
