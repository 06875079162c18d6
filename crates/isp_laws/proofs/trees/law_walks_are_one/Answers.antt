use Rattle.isp_laws.proofs.WalkLaws.{walk_once}
use Rattle.isp_laws.proofs.trees.law_walks_are_one.Goals as goal

pub returns : goal.returns
returns c = walk_once
