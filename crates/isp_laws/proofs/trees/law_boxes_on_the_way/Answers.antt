use Rattle.isp_laws.proofs.ForestLaws.{covers_down}
use Rattle.isp_laws.proofs.trees.law_boxes_on_the_way.Goals as goal

pub returns : goal.returns
returns c = covers_down
