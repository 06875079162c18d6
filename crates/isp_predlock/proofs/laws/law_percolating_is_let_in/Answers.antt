use Rattle.isp_predlock.proofs.TestedLaws.{percolating_is_let_in}
use Rattle.isp_predlock.proofs.laws.law_percolating_is_let_in.Goals as goal

pub returns : goal.returns
returns c = percolating_is_let_in
