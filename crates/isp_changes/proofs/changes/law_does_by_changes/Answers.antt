use Rattle.isp_changes.proofs.ChangeProofs.{does_by_changes}
use Rattle.isp_changes.proofs.changes.law_does_by_changes.Goals as goal

pub returns : goal.returns
returns c = does_by_changes
