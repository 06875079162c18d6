use Rattle.isp_drain.proofs.RoundLaws.{each_round_lowers}
use Rattle.isp_drain.proofs.drain.law_each_round_lowers.Goals as goal

pub returns : goal.returns
returns c = each_round_lowers
