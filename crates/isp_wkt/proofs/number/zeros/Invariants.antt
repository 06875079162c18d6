use Rattle.std.proofs.Common.{◌≡◌, drop}
use Rattle.isp_wkt.specs.Reading.{zeros_at}
use Rattle.isp_wkt.proofs.number.zeros.Given as goal

abbrev pub invariant-loop-i : goal.invariant-loop-i
invariant-loop-i l = zeros_at (drop l.i l.bytes) ≡ zeros_at l.bytes
