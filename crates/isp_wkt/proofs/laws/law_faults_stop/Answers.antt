use Rattle.isp_wkt.proofs.Stops.{stops}
use Rattle.isp_wkt.proofs.laws.law_faults_stop.Goals as goal

pub returns : goal.returns
returns c = stops
