use Rattle.std.proofs.Common.{◌≡◌, true}
use Rattle.isp_table_tests.proofs.drawn.finds_each.Given as goal

-- the store can be used
abbrev pub invariant-loop-number : goal.invariant-loop-number
invariant-loop-number g l = record {
  usable : g.P.Pages.usable l.pages ≡ true;
  shape : g.P.Pages.shape l.pages ≡ g.P.Pages.shape l.initial.pages;
}
