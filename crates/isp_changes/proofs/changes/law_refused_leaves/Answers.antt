use Rattle.isp_changes.proofs.ChangeProofs.{refused_leaves}
use Rattle.isp_changes.proofs.changes.law_refused_leaves.Goals as goal

pub returns : goal.returns
returns c = refused_leaves
