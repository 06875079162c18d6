use Rattle.std.proofs.Common.{◌≡◌, true}
use Rattle.isp_page.specs.State.{none_begun}
use Rattle.isp_rinsert_tests.proofs.putting.way.Given as goal

-- the store can be used, no mini-transaction is begun, and it has its pages
abbrev pub invariant-loop-level : goal.invariant-loop-level
invariant-loop-level g l = record {
  usable : g.P.Pages.usable l.pages ≡ true;
  none : g.P.Pages.mini l.pages ≡ none_begun;
  shape : g.P.Pages.shape l.pages ≡ g.P.Pages.shape l.fn.pages;
}
