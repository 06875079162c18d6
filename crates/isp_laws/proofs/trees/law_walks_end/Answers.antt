use Rattle.std.proofs.Common.{ℕ}
use Rattle.isp_forest.specs.Walk.{EndsAfter}
use Rattle.isp_laws.proofs.WalkLaws.{walk_ends, Ending}
use Rattle.isp_laws.proofs.trees.law_walks_end.Goals as goal

pub returns : goal.returns
returns c = λ tree whole p s. (let e : (n : ℕ) × EndsAfter tree n p = whole.links.ends p in let w : Ending tree s p = walk_ends tree s e.0 p e.1 in (w.rest, w.walk))
