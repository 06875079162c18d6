use Rattle.isp_trx.proofs.SweepLaws.{sweeps_more}
use Rattle.isp_trx.proofs.laws.law_sweeps_go_on.Goals as goal

pub returns : goal.returns
returns c = sweeps_more
