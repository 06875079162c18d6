use Rattle.isp_laws.proofs.PlaceLaws.{place_keeps}
use Rattle.isp_laws.proofs.trees.law_place_keeps.Goals as goal

pub returns : goal.returns
returns c = place_keeps
