use Rattle.isp_predlock.proofs.PercolatingLaws.{percolates_on_path}
use Rattle.isp_predlock.proofs.laws.law_percolates_on_path.Goals as goal

pub returns : goal.returns
returns c = percolates_on_path
