use Rattle.isp_event_examples.proofs.WorkedRows.{deadlock_fits}
use Rattle.isp_event_examples.proofs.worked.law_deadlock_fits.Goals as goal

pub returns : goal.returns
returns c = deadlock_fits
