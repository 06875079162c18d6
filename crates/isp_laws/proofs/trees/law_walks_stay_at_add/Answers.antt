use Rattle.isp_forest.specs.Steps.{added_to}
use Rattle.isp_laws.proofs.WalkLaws.{walk_same}
use Rattle.isp_laws.proofs.RoundLaws.{rounded, onward-rounded}
use Rattle.isp_laws.proofs.AddLaws.{add-still}
use Rattle.isp_laws.proofs.trees.law_walks_stay_at_add.Goals as goal

pub returns : goal.returns
returns c = λ tree path box key number s walk h. walk_same tree (rounded tree (added_to path box key number)) s (onward-rounded tree (added_to path box key number) (add-still path box key number) s) walk h
