use Rattle.std.proofs.Common.{◌≡◌, true}
use Rattle.isp_page.specs.State.{none_begun}
use Rattle.isp_table_tests.proofs.rising.put_all.Given as goal

-- between two acts the store can be used, and no mini-transaction is begun
abbrev pub invariant-loop-row : goal.invariant-loop-row
invariant-loop-row g l = record {
  usable : g.P.Pages.usable l.pages ≡ true;
  none : g.P.Pages.mini l.pages ≡ none_begun;
  shape : g.P.Pages.shape l.pages ≡ g.P.Pages.shape l.initial.pages;
}
