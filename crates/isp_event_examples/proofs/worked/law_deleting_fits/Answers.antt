use Rattle.isp_event_examples.proofs.WorkedRows.{deleting_fits}
use Rattle.isp_event_examples.proofs.worked.law_deleting_fits.Goals as goal

pub returns : goal.returns
returns c = deleting_fits
