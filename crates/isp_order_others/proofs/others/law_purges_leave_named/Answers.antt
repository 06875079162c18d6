use Rattle.isp_order_others.proofs.RowChanges.{purges_leave_named}
use Rattle.isp_order_others.proofs.others.law_purges_leave_named.Goals as goal

pub returns : goal.returns
returns c = purges_leave_named
