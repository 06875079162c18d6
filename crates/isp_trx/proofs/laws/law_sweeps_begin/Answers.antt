use Rattle.isp_trx.proofs.SweepLaws.{sweeps_begin}
use Rattle.isp_trx.proofs.laws.law_sweeps_begin.Goals as goal

pub returns : goal.returns
returns c = sweeps_begin
