use Rattle.isp_bound_rows.proofs.MeaningLaws.{create_makes_table}
use Rattle.isp_bound_rows.proofs.laws.law_create_makes_table.Goals as goal

pub returns : goal.returns
returns c = create_makes_table
