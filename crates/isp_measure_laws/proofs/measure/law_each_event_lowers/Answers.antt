use Rattle.isp_measure_laws.proofs.EventLaws.{each_event_lowers}
use Rattle.isp_measure_laws.proofs.measure.law_each_event_lowers.Goals as goal

pub returns : goal.returns
returns c = each_event_lowers
