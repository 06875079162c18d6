use Rattle.std.proofs.Common.{◌≡◌, drop}
use Rattle.isp_wkt.specs.Reading.{skipped}
use Rattle.isp_wkt.proofs.cursor.skipped.Given as goal

abbrev pub invariant-loop-i : goal.invariant-loop-i
invariant-loop-i l = skipped (drop l.i l.bytes) ≡ skipped l.bytes
