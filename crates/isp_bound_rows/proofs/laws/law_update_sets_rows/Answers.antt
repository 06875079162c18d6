use Rattle.isp_bound_rows.proofs.MeaningLaws.{update_sets_rows}
use Rattle.isp_bound_rows.proofs.laws.law_update_sets_rows.Goals as goal

pub returns : goal.returns
returns c = update_sets_rows
