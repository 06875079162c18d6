use Rattle.std.proofs.Common.{◌≡◌, None, replicate}
use Rattle.isp_split.proofs.division.all_left.Given as goal

abbrev pub invariant-loop-place : goal.invariant-loop-place
invariant-loop-place l = l.sides.items ≡ replicate l._place None
