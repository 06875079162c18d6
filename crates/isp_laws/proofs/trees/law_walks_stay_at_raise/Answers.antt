use Rattle.isp_forest.specs.Steps.{raise}
use Rattle.isp_laws.proofs.WalkLaws.{walk_same}
use Rattle.isp_laws.proofs.RaiseLaws.{raise_onward}
use Rattle.isp_laws.proofs.trees.law_walks_stay_at_raise.Goals as goal

pub returns : goal.returns
returns c = λ tree q s walk forest free h. walk_same tree (raise tree q) s (raise_onward tree forest q free s) walk h
