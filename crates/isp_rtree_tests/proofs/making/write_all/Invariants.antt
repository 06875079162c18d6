use Rattle.std.proofs.Common.{◌≡◌, true}
use Rattle.isp_page.specs.State.{none_begun}
use Rattle.isp_rtree_tests.proofs.making.write_all.Given as goal

-- the store can be used, no mini-transaction is begun, and it has its pages
abbrev pub invariant-loop-leaf : goal.invariant-loop-leaf
invariant-loop-leaf g l = record {
  usable : g.P.Pages.usable l.pages ≡ true;
  none : g.P.Pages.mini l.pages ≡ none_begun;
  shape : g.P.Pages.shape l.pages ≡ g.P.Pages.shape l.initial.pages;
}
