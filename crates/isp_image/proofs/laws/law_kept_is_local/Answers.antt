use Rattle.isp_image.proofs.LocalLaws.{kept_local}
use Rattle.isp_image.proofs.laws.law_kept_is_local.Goals as goal

pub returns : goal.returns
returns c = kept_local
