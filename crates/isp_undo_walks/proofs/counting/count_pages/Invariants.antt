use Rattle.std.proofs.Common.{◌≡◌, ◌-◌, ◌≤◌}
use Rattle.isp_page.specs.Calls.{Continued}
use Rattle.isp_undo_walks.specs.Chains.{Chain, ends_of}
use Rattle.isp_undo_walks.specs.Walks.{IsOn, IsWay}
use Rattle.isp_undo_pages.specs.Directory.{ends_in}
use Rattle.isp_undo_walks.proofs.counting.count_pages.Given as goal

abbrev pub invariant-on : goal.invariant-on
invariant-on g l = record {
  kept : Continued g.P.Pages l.fn.pages l.pages;
  contents : g.P.Pages.tells → g.P.Pages.contents l.pages ≡ g.P.Pages.contents l.fn.pages;
  mini : g.P.Pages.mini l.pages ≡ g.P.Pages.mini l.fn.pages;
  few : l.place.passed ≤ (g.P.Pages.shape l.fn.pages).pages;
  on : g.P.Pages.tells → (way : Chain) → IsWay (g.P.Pages.shape l.fn.pages).pages (g.P.Pages.contents l.fn.pages) 0 way → ends_in l.fn.ends ≡ ends_of way → IsOn way l.place;
}

abbrev pub decreases-on : goal.decreases-on
decreases-on g l = (g.P.Pages.shape l.fn.pages).pages - l.place.passed
