use Rattle.std.proofs.Common.{◌≡◌, ◌++◌, map, take, drop}
use Rattle.isp_forest.specs.Steps.{reboxed}
use Rattle.isp_rplan.proofs.boxes.rebox.Given as goal

abbrev pub invariant-loop-e : goal.invariant-loop-e
invariant-loop-e l = l.e-items ≡ map (reboxed l.child.0 l.b) (take l.e-index l.initial.e-items) ++ drop l.e-index l.initial.e-items
