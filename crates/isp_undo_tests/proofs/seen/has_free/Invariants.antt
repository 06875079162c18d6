use Rattle.std.proofs.Common.{◌≡◌, true}
use Rattle.isp_undo_tests.proofs.seen.has_free.Given as goal

abbrev pub invariant-loop-page : goal.invariant-loop-page
invariant-loop-page g l = record {
  usable : g.P.Pages.usable l.pages ≡ true;
  mini : g.P.Pages.mini l.pages ≡ g.P.Pages.mini l.initial.pages;
  shape : g.P.Pages.shape l.pages ≡ g.P.Pages.shape l.initial.pages;
}
