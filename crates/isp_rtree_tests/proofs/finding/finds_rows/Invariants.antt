use Rattle.std.proofs.Common.{◌≡◌, true}
use Rattle.isp_rtree_tests.proofs.finding.finds_rows.Given as goal

-- the store can be used, and has its pages
abbrev pub invariant-loop-row : goal.invariant-loop-row
invariant-loop-row g l = record {
  usable : g.P.Pages.usable l.pages ≡ true;
  shape : g.P.Pages.shape l.pages ≡ g.P.Pages.shape l.initial.pages;
}
