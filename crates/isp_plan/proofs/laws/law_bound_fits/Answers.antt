use Rattle.isp_plan.proofs.FitLaws.{bound_fits}
use Rattle.isp_plan.proofs.laws.law_bound_fits.Goals as goal

pub returns : goal.returns
returns c = bound_fits
