use Rattle.isp_event_examples.proofs.StaleLaws.{stale_fits}
use Rattle.isp_event_examples.proofs.worked.law_stale_fits.Goals as goal

pub returns : goal.returns
returns c = stale_fits
