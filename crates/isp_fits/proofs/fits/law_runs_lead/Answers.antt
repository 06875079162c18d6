use Rattle.isp_fits.proofs.RunProofs.{runs_lead}
use Rattle.isp_fits.proofs.fits.law_runs_lead.Goals as goal

pub returns : goal.returns
returns c = runs_lead
