use Rattle.std.proofs.Common.{◌≡◌, replicate, None}
use Rattle.isp_pool.proofs.empty.all_none.Given as goal

abbrev pub invariant-loop-place : goal.invariant-loop-place
invariant-loop-place g l = l.v.items ≡ replicate l._place None
