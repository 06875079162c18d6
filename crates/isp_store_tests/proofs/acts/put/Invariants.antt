use Rattle.std.proofs.Common.{◌≡◌, ◌≤◌, true, length}
use Rattle.isp_store_tests.proofs.acts.put.Given as goal

-- the mini-transaction is begun, and each run has added a page to it at most
abbrev pub invariant-loop-run : goal.invariant-loop-run
invariant-loop-run g l = record {
  usable : g.P.Pages.usable l.store ≡ true;
  begun : (g.P.Pages.mini l.store).is_begun ≡ true;
  few : length (g.P.Pages.mini l.store).changed ≤ l.run-index;
}
