use Rattle.isp_laws.proofs.ForestLaws.{alone_on_level, no_link_to_root}
use Rattle.isp_laws.proofs.trees.law_root_is_alone.Goals as goal

pub returns : goal.returns
returns c = λ tree forest q page there. (alone_on_level tree forest q page there, no_link_to_root tree forest q page there)
