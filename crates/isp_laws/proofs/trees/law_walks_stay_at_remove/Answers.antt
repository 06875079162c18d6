use Rattle.isp_forest.specs.Steps.{without}
use Rattle.isp_laws.proofs.WalkLaws.{walk_same}
use Rattle.isp_laws.proofs.RoundLaws.{rounded, onward-rounded}
use Rattle.isp_laws.proofs.RemoveLaws.{remove-still}
use Rattle.isp_laws.proofs.trees.law_walks_stay_at_remove.Goals as goal

pub returns : goal.returns
returns c = λ tree number s walk h. walk_same tree (rounded tree (without number)) s (onward-rounded tree (without number) (remove-still number) s) walk h
