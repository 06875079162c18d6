use Rattle.isp_order_others.proofs.CommittedFrames.{committed_changes_at_ends}
use Rattle.isp_order_others.proofs.others.law_committed_changes_at_ends.Goals as goal

pub returns : goal.returns
returns c = committed_changes_at_ends
