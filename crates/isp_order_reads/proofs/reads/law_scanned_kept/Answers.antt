use Rattle.isp_order_reads.proofs.ScannedLaws.{scanned_kept}
use Rattle.isp_order_reads.proofs.reads.law_scanned_kept.Goals as goal

pub returns : goal.returns
returns c = scanned_kept
