use Rattle.std.proofs.Common.{◌≡◌, true}
use Rattle.isp_store_tests.proofs.acts.has_pages.Given as goal

-- the store can be used
abbrev pub invariant-loop-number : goal.invariant-loop-number
invariant-loop-number g l = g.P.Pages.usable l.store ≡ true
