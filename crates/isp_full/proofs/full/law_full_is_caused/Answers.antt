use Rattle.isp_full.proofs.FullProofs.{full_is_caused}
use Rattle.isp_full.proofs.full.law_full_is_caused.Goals as goal

pub returns : goal.returns
returns c = full_is_caused
