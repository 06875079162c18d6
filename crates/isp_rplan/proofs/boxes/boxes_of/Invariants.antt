use Rattle.std.proofs.Common.{◌≡◌, ◌++◌, drop}
use Rattle.isp_laws.specs.DivisionLaws.{boxes_of}
use Rattle.isp_rplan.proofs.boxes.boxes_of.Given as goal

abbrev pub invariant-loop-e : goal.invariant-loop-e
invariant-loop-e l = l.boxes.items ++ boxes_of (drop l.e-index l.entries) ≡ boxes_of l.entries
