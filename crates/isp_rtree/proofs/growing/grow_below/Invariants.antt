use Rattle.std.proofs.Common.{◌≡◌, ◌<◌, ◌∷◌, drop, length, vec_capacity}
use Rattle.isp_page.specs.Calls.{Continued}
use Rattle.isp_forest.specs.Place.{IsPath}
use Rattle.isp_forest.specs.Tree.{Tree}
use Rattle.isp_rtree.specs.Paths.{numbers_of}
use Rattle.isp_rtree.specs.Trees.{IsAtPage, IsPageOf}
use Rattle.isp_rtree.proofs.GrowLaws.{Grows}
use Rattle.isp_rtree.proofs.growing.grow_below.Given as goal

abbrev pub invariant-loop-next : goal.invariant-loop-next
invariant-loop-next g l = record {
  kept : Continued g.P.Pages l.fn.pages l.pages;
  contents : g.P.Pages.tells → g.P.Pages.contents l.pages ≡ g.P.Pages.contents l.fn.pages;
  mini : g.P.Pages.mini l.pages ≡ g.P.Pages.mini l.fn.pages;
  inside : l.at.0 < (g.P.Pages.shape l.fn.pages).pages;
  is : IsPageOf (g.P.Pages.shape l.fn.pages).pages l.owner l.at.0 l.page.bytes;
  count : length l.grown.items ≡ l.next-index;
  room : vec_capacity l.grown ≡ vec_capacity l.fn.grown;
  way : g.P.Pages.tells → (tree : Tree) → IsAtPage (g.P.Pages.contents l.fn.pages) (g.P.Pages.shape l.fn.pages) l.owner tree l.fn.from.0 l.fn.page.bytes → IsPath tree (l.fn.from.0 ∷ numbers_of l.rest)
      → Grows (g.P.Pages.contents l.fn.pages) tree l.b l.at.0 l.page.bytes (l.fn.from.0 ∷ numbers_of l.rest) (numbers_of (drop l.next-index l.rest)) l.grown.items;
}
