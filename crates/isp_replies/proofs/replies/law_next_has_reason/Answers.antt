use Rattle.isp_replies.proofs.ReasonLaws.{has_reason}
use Rattle.isp_replies.proofs.replies.law_next_has_reason.Goals as goal

pub returns : goal.returns
returns c = has_reason
