use Rattle.isp_paths.proofs.ReachLaws.{paths_reach}
use Rattle.isp_paths.proofs.laws.law_paths_reach.Goals as goal

pub returns : goal.returns
returns c = paths_reach
