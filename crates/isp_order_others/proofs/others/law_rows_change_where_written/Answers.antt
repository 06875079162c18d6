use Rattle.isp_order_others.proofs.RowChanges.{rows_change_where_written}
use Rattle.isp_order_others.proofs.others.law_rows_change_where_written.Goals as goal

pub returns : goal.returns
returns c = rows_change_where_written
