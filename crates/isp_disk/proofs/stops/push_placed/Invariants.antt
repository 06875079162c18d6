use Rattle.std.proofs.Common.{◌≡◌, ◌++◌, take}
use Rattle.std.specs.Prelude.{filter, nat_lt}
use Rattle.isp_disk.specs.Stops.{placed}
use Rattle.isp_disk.proofs.stops.push_placed.Given as goal

abbrev pub invariant-loop-i : goal.invariant-loop-i
invariant-loop-i l = l.writes.items ≡ l.initial.writes.items ++ filter (λ write. nat_lt write.0 l.fn.size) (placed l.at (take l.i l.bytes))
