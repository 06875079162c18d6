use Rattle.std.proofs.Common.{◌≡◌, ◌-◌, ◌<◌, ◌≤◌, length}
use Rattle.isp_format.specs.Ranges.{page_of}
use Rattle.isp_page.specs.Calls.{Continued}
use Rattle.isp_undo_walks.specs.Chains.{Chain, first_page, last_page}
use Rattle.isp_undo_walks.specs.Walks.{IsBack, IsWay}
use Rattle.isp_undo_walks.proofs.walking.last_used.Given as goal

abbrev pub invariant-back : goal.invariant-back
invariant-back g l = record {
  kept : Continued g.P.Pages l.fn.pages l.pages;
  contents : g.P.Pages.tells → g.P.Pages.contents l.pages ≡ g.P.Pages.contents l.fn.pages;
  mini : g.P.Pages.mini l.pages ≡ g.P.Pages.mini l.fn.pages;
  inside : l.stop.page.0 < (g.P.Pages.shape l.fn.pages).pages;
  within : (64 ≤ l.stop.used) × (l.stop.used ≤ 4096);
  few : l.stop.passed ≤ (g.P.Pages.shape l.fn.pages).pages;
  page : g.P.Pages.tells → l.into.bytes ≡ page_of (g.P.Pages.contents l.fn.pages) l.stop.page.0;
  back : g.P.Pages.tells → (way : Chain) → IsWay (g.P.Pages.shape l.fn.pages).pages (g.P.Pages.contents l.fn.pages) l.fn.next.0 way → 0 < length way → first_page 0 way ≡ l.fn.first.0 → last_page 0 way ≡ l.fn.last.0 → IsBack way l.stop;
}

abbrev pub decreases-back : goal.decreases-back
decreases-back g l = (g.P.Pages.shape l.fn.pages).pages - l.stop.passed
