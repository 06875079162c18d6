use Rattle.std.proofs.Common.{◌≡◌, [], take}
use Rattle.std.specs.Prelude.{fold}
use Rattle.isp_disk.specs.Stops.{still_pending}
use Rattle.isp_disk.proofs.stops.written_by.Given as goal

abbrev pub invariant-loop-i : goal.invariant-loop-i
invariant-loop-i l = l.writes.items ≡ fold (still_pending l.size) [] (take l.i l.log.calls)
