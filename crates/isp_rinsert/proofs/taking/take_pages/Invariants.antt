use Rattle.std.proofs.Common.{◌≡◌, ◌<◌, ◌≤◌, ◌∷◌, length, vec_capacity}
use Rattle.isp_base.specs.Lists.{Has}
use Rattle.isp_base.specs.declared.page_no.PageNo.{PageNo}
use Rattle.isp_page.specs.Calls.{Continued}
use Rattle.isp_space.specs.Changes.{ChangesOf}
use Rattle.isp_space.specs.Spaces.{Space, free_pages}
use Rattle.isp_rtree.specs.Making.{HasSpace}
use Rattle.isp_rinsert.specs.Applying.{numbers_of}
use Rattle.isp_rinsert.proofs.TakeLaws.{Taking}
use Rattle.isp_rinsert.proofs.taking.take_pages.Given as goal

abbrev pub invariant-loop-page : goal.invariant-loop-page
invariant-loop-page g l = record {
  kept : Continued g.P.Pages l.fn.pages l.pages;
  changes : ChangesOf g.P.Pages (0 ∷ numbers_of l.news.items) l.fn.pages l.pages;
  count : length l.news.items ≡ l._page;
  room : vec_capacity l.news ≡ vec_capacity l.fn.news;
  inside : (p : PageNo) → Has l.news.items p → p.0 < (g.P.Pages.shape l.fn.pages).pages;
  taken : g.P.Pages.tells → (s : Space) → HasSpace g.P.Pages l.fn.pages s → l.count ≤ free_pages (g.P.Pages.shape l.fn.pages).pages s → Taking g.P.Pages l.count l._page s l.news.items l.fn.pages l.pages;
}
