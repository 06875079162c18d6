use Rattle.isp_order_reads.proofs.KeysLaws.{keys_kept}
use Rattle.isp_order_reads.proofs.reads.law_keys_kept.Goals as goal

pub returns : goal.returns
returns c = keys_kept
