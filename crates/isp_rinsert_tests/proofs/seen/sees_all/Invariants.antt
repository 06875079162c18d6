use Rattle.std.proofs.Common.{◌≡◌, true}
use Rattle.isp_rinsert_tests.proofs.seen.sees_all.Given as goal

-- the store can be used
abbrev pub invariant-loop-leaf : goal.invariant-loop-leaf
invariant-loop-leaf g l = g.P.Pages.usable l.pages ≡ true
