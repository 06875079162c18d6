use Rattle.isp_order_others.proofs.RowChanges.{read_is_unnamed}
use Rattle.isp_order_others.proofs.others.law_read_is_unnamed.Goals as goal

pub returns : goal.returns
returns c = read_is_unnamed
