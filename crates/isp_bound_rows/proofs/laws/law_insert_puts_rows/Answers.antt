use Rattle.isp_bound_rows.proofs.MeaningLaws.{insert_puts_rows}
use Rattle.isp_bound_rows.proofs.laws.law_insert_puts_rows.Goals as goal

pub returns : goal.returns
returns c = insert_puts_rows
