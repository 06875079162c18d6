use Rattle.isp_fits.proofs.FitProofs.{events_fit}
use Rattle.isp_fits.proofs.fits.law_events_fit.Goals as goal

pub returns : goal.returns
returns c = events_fit
