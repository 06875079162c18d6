use Rattle.isp_order_work.proofs.WrittenLaws.{written_kept}
use Rattle.isp_order_work.proofs.work.law_written_kept.Goals as goal

pub returns : goal.returns
returns c = written_kept
