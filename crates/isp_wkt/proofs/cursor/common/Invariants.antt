use Rattle.std.proofs.Common.{◌≡◌, ◌+◌, drop, length}
use Rattle.isp_wkt.specs.Words.{common}
use Rattle.isp_wkt.proofs.cursor.common.Given as goal

abbrev pub invariant-loop-w : goal.invariant-loop-w
invariant-loop-w l = record {
  value : l.count + common (drop l.w-index l.word) l.rest ≡ common l.word l.fn.bytes;
  within : l.count + length l.rest ≡ length l.fn.bytes;
}
