use Rattle.std.proofs.Common.{◌≡◌, true}
use Rattle.isp_page.specs.State.{none_begun}
use Rattle.isp_undo_tests.proofs.drawn.run.Given as goal

abbrev pub invariant-loop-at : goal.invariant-loop-at
invariant-loop-at g l = record {
  usable : g.P.Pages.usable l.pages ≡ true;
  none : g.P.Pages.mini l.pages ≡ none_begun;
}
