use Rattle.std.proofs.Common.{◌≡◌, ◌+◌, ◌++◌, length}
use Rattle.isp_waits.specs.Levels.{walk}
use Rattle.isp_waits.proofs.graph.Waits.trace.Given as goal

abbrev pub invariant-loop-left : goal.invariant-loop-left
invariant-loop-left l =
    (l.members.items ++ walk l.self l.s l.left l.at ≡ walk l.self l.s l.steps l.s) × (length l.members.items + l.left ≡ l.steps) × (l.members.capacity ≡ 17)
