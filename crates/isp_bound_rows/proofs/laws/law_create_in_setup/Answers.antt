use Rattle.isp_bound_rows.proofs.MeaningLaws.{create_in_setup}
use Rattle.isp_bound_rows.proofs.laws.law_create_in_setup.Goals as goal

pub returns : goal.returns
returns c = create_in_setup
