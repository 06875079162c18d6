use Rattle.std.proofs.Common.{◌≡◌, ◌+◌, ◌<◌, ◌∷◌, drop, length, take, vec_capacity}
use Rattle.std.specs.Prelude.{⊤}
use Rattle.isp_format.specs.Header.{header_of}
use Rattle.isp_page.specs.Calls.{ContinuesOrLacks}
use Rattle.isp_forest.specs.Tree.{Tree}
use Rattle.isp_rtree.specs.Paths.{Leads, numbers_of}
use Rattle.isp_rtree.specs.Trees.{IsAtPage}
use Rattle.isp_rinsert.proofs.WayLaws.{Goes, Walks, so_far}
use Rattle.isp_rinsert.proofs.way.read_rest.Given as goal

abbrev pub invariant-loop-next : goal.invariant-loop-next
invariant-loop-next g l = record {
  kept : ContinuesOrLacks {T = ⊤} g.P.Pages l.fn.pages l.pages so_far;
  contents : g.P.Pages.tells → g.P.Pages.contents l.pages ≡ g.P.Pages.contents l.fn.pages;
  mini : g.P.Pages.mini l.pages ≡ g.P.Pages.mini l.fn.pages;
  inside : l.at.0 < (g.P.Pages.shape l.fn.pages).pages;
  count : length l.way.items ≡ length l.fn.way.items + l.next-index;
  room : vec_capacity l.way ≡ vec_capacity l.fn.way;
  goes : Goes (g.P.Pages.shape l.fn.pages).pages (header_of l.fn.page.bytes).level (header_of l.page.bytes).level (take l.next-index l.rest) l.fn.way.items l.way.items;
  walks : g.P.Pages.tells → (tree : Tree) → IsAtPage (g.P.Pages.contents l.fn.pages) (g.P.Pages.shape l.fn.pages) l.owner tree l.fn.from.0 l.fn.page.bytes → Leads tree (l.fn.from.0 ∷ numbers_of l.rest)
      → Walks (g.P.Pages.contents l.fn.pages) tree l.at.0 l.page.bytes (numbers_of (drop l.next-index l.rest)) l.fn.way.items l.way.items;
}
