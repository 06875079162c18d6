use Rattle.std.proofs.Common.{length, ◌%◌}
use Rattle.isp_pool.specs.Chains.{in_chain, IsLast}
use Rattle.isp_pool.proofs.ChainLaws.{left, limit, IsOver}
use Rattle.isp_pool.proofs.by_page.above.Given as goal

abbrev pub invariant-loop-at : goal.invariant-loop-at
invariant-loop-at l = record {
  last : IsLast (in_chain (length l.pages) l.pages (l.fn.p.0 % length l.pages)) (limit l.above (length l.pages)) l.at;
  over : IsOver (in_chain (length l.pages) l.pages (l.fn.p.0 % length l.pages)) l.frame (length l.pages) l.above;
}

abbrev pub decreases-loop-at : goal.decreases-loop-at
decreases-loop-at l = left l.at
