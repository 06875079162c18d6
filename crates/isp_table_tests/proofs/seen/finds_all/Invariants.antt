use Rattle.std.proofs.Common.{◌≡◌, true}
use Rattle.isp_table_tests.proofs.seen.finds_all.Given as goal

-- the store can be used
abbrev pub invariant-loop-seen : goal.invariant-loop-seen
invariant-loop-seen g l = record {
  usable : g.P.Pages.usable l.pages ≡ true;
  shape : g.P.Pages.shape l.pages ≡ g.P.Pages.shape l.initial.pages;
}
