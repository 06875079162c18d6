use Rattle.isp_event_examples.proofs.WorkedRows.{percolation_stops}
use Rattle.isp_event_examples.proofs.worked.law_percolation_stops.Goals as goal

pub returns : goal.returns
returns c = percolation_stops
