use Rattle.isp_order_work.proofs.TableLockLaws.{table_kept}
use Rattle.isp_order_work.proofs.work.law_table_kept.Goals as goal

pub returns : goal.returns
returns c = table_kept
