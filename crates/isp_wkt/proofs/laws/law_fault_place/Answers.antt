use Rattle.isp_wkt.proofs.Places.{faults_outside, fault_place, longest_front, one_place}
use Rattle.isp_wkt.proofs.laws.law_fault_place.Goals as goal

pub returns : goal.returns
returns c = record { outside = faults_outside; place = fault_place; longest = longest_front; one = one_place }
