use Rattle.isp_order_reads.proofs.StandingLaws.{standing_kept}
use Rattle.isp_order_reads.proofs.reads.law_standing_kept.Goals as goal

pub returns : goal.returns
returns c = standing_kept
