use Rattle.isp_fits.proofs.RunProofs.{runs_fit}
use Rattle.isp_fits.proofs.fits.law_runs_fit.Goals as goal

pub returns : goal.returns
returns c = runs_fit
