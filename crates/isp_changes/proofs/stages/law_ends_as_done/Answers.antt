use Rattle.isp_changes.proofs.StageProofs.{ends_as_done}
use Rattle.isp_changes.proofs.stages.law_ends_as_done.Goals as goal

pub returns : goal.returns
returns c = ends_as_done
