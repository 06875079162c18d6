use Rattle.std.proofs.Common.{◌≡◌, ℕ, List, take}
use Rattle.isp_disk.specs.InMemory.{held_after}
use Rattle.isp_disk.proofs.stops.printed_behind.Given as goal

abbrev pub invariant-loop-i : goal.invariant-loop-i
invariant-loop-i l = (first : List ℕ) → l.printed.items ≡ (held_after first (take l.i l.log.calls)).printed
