use Rattle.std.proofs.Common.{◌≡◌, ◌<◌, true, IfSome}
use Rattle.isp_table_tests.proofs.scans.scan.Given as goal

-- the store can be used, and the last leaf lies in the file
abbrev pub invariant-loop-leaves : goal.invariant-loop-leaves
invariant-loop-leaves g l = record {
  usable : g.P.Pages.usable l.pages ≡ true;
  shape : g.P.Pages.shape l.pages ≡ g.P.Pages.shape l.initial.pages;
  inside : IfSome l.after (λ page. page.0 < (g.P.Pages.shape l.pages).pages);
}
