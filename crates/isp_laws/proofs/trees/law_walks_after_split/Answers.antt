use Rattle.isp_laws.proofs.SplitWalkLaws.{split_walk}
use Rattle.isp_laws.proofs.trees.law_walks_after_split.Goals as goal

pub returns : goal.returns
returns c = split_walk
