use Rattle.std.proofs.Common.{◌≡◌, ◌≤◌, drop}
use Rattle.isp_wkt.specs.Reading.{digits_at}
use Rattle.isp_wkt.proofs.number.digits.Given as goal

abbrev pub invariant-loop-i : goal.invariant-loop-i
invariant-loop-i l = record {
  read : digits_at l.size (drop l.i l.bytes) ≡ digits_at 0 l.bytes;
  fits : l.size ≤ 1073741824;
}
