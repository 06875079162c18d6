use Rattle.isp_geom.proofs.Whole.{apart}
use Rattle.isp_geom.proofs.laws.law_no_spelling_begins_another.Goals as goal

pub returns : goal.returns
returns c = apart
