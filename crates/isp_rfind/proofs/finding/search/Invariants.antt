use Rattle.std.proofs.Common.{◌≡◌, ◌<◌}
use Rattle.isp_format.specs.Ranges.{page_of}
use Rattle.isp_page.specs.Calls.{ContinuesOrLacks}
use Rattle.std.specs.Prelude.{⊤}
use Rattle.isp_forest.specs.Tree.{Tree}
use Rattle.isp_rtree.specs.Trees.{IsAtPage, IsPageOf}
use Rattle.isp_rfind.specs.Stack.{AreInside}
use Rattle.isp_rfind.specs.Walks.{AreChildren}
use Rattle.isp_rfind.proofs.FindLaws.{Looking}
use Rattle.isp_rfind.proofs.TurnLaws.{so_far}
use Rattle.isp_rfind.proofs.finding.search.Given as goal

abbrev pub invariant-loop-turn : goal.invariant-loop-turn
invariant-loop-turn g l = record {
  kept : ContinuesOrLacks {T = ⊤} g.P.Pages l.fn.pages l.pages so_far;
  contents : g.P.Pages.tells → g.P.Pages.contents l.pages ≡ g.P.Pages.contents l.fn.pages;
  mini : g.P.Pages.mini l.pages ≡ g.P.Pages.mini l.fn.pages;
  inside : l.at.0 < (g.P.Pages.shape l.fn.pages).pages;
  is : IsPageOf (g.P.Pages.shape l.fn.pages).pages l.owner l.at.0 l.page.bytes;
  stack : AreInside (g.P.Pages.shape l.fn.pages).pages l.stack.items;
  read : g.P.Pages.tells → l.fn.page.bytes ≡ page_of (g.P.Pages.contents l.fn.pages) l.fn.root.0 → l.page.bytes ≡ page_of (g.P.Pages.contents l.fn.pages) l.at.0;
  on : g.P.Pages.tells → l.fn.page.bytes ≡ page_of (g.P.Pages.contents l.fn.pages) l.fn.root.0 → AreChildren (g.P.Pages.contents l.fn.pages) (g.P.Pages.shape l.fn.pages).pages l.owner l.stack.items;
  looking : g.P.Pages.tells → (tree : Tree) → IsAtPage (g.P.Pages.contents l.fn.pages) (g.P.Pages.shape l.fn.pages) l.owner tree l.fn.root.0 l.fn.page.bytes → tree.root ≡ l.fn.root.0 → Looking tree l.b l.number l._turn l.at.0 l.stack.items;
}
