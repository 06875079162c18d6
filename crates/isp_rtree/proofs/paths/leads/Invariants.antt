use Rattle.std.proofs.Common.{◌≡◌, ℕ, ◌∷◌, drop}
use Rattle.isp_page.specs.Calls.{Continued}
use Rattle.isp_forest.specs.Tree.{Tree}
use Rattle.isp_rtree.specs.Paths.{numbers_of}
use Rattle.isp_rtree.specs.Trees.{IsAtPage, IsRead}
use Rattle.isp_rtree.proofs.PathLaws.{OnWay}
use Rattle.isp_rtree.proofs.paths.leads.Given as goal

abbrev pub invariant-loop-next : goal.invariant-loop-next
invariant-loop-next g l = record {
  kept : Continued g.P.Pages l.fn.pages l.pages;
  contents : g.P.Pages.tells → g.P.Pages.contents l.pages ≡ g.P.Pages.contents l.fn.pages;
  mini : g.P.Pages.mini l.pages ≡ g.P.Pages.mini l.fn.pages;
  is : IsRead (g.P.Pages.shape l.fn.pages).pages l.owner l.page.bytes;
  way : g.P.Pages.tells → (tree : Tree) (from : ℕ) → IsAtPage (g.P.Pages.contents l.fn.pages) (g.P.Pages.shape l.fn.pages) l.owner tree from l.fn.page.bytes
      → (at : ℕ) × OnWay (g.P.Pages.contents l.fn.pages) tree at l.page.bytes (from ∷ numbers_of l.rest) (numbers_of (drop l.next-index l.rest));
}
