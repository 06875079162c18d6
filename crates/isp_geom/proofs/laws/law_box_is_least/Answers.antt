use Rattle.isp_geom.proofs.LeastBox.{box_is_least}
use Rattle.isp_geom.proofs.laws.law_box_is_least.Goals as goal

pub returns : goal.returns
returns c = box_is_least
