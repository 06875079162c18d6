use Rattle.std.proofs.Common.{◌≡◌, ◌++◌, map, take, drop}
use Rattle.isp_rplan.specs.Plans.{known}
use Rattle.isp_rsettle.proofs.settling.know.Given as goal

abbrev pub invariant-loop-e : goal.invariant-loop-e
invariant-loop-e l = l.e-items ≡ map (known l.to) (take l.e-index l.initial.e-items) ++ drop l.e-index l.initial.e-items
