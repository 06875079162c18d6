use Rattle.isp_wkt.proofs.Places.{fronts_go_on}
use Rattle.isp_wkt.proofs.laws.law_fronts_go_on.Goals as goal

pub returns : goal.returns
returns c = fronts_go_on
