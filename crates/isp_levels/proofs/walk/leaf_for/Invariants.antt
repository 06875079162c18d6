use Rattle.std.proofs.Common.{◌≡◌, ◌<◌, ℕ, List}
use Rattle.isp_page.specs.Calls.{Continued}
use Rattle.isp_levels.specs.Inners.{OnWay}
use Rattle.isp_levels.specs.Levels.{InnerNode, IsTreeOf, TreeLeaf}
use Rattle.isp_levels.proofs.walk.leaf_for.Given as goal

abbrev pub invariant-down : goal.invariant-down
invariant-down g l = record {
  kept : Continued g.P.Pages l.fn.pages l.pages;
  contents : g.P.Pages.tells → g.P.Pages.contents l.pages ≡ g.P.Pages.contents l.fn.pages;
  mini : g.P.Pages.mini l.pages ≡ g.P.Pages.mini l.fn.pages;
  inside : l.at.0 < (g.P.Pages.shape l.fn.pages).pages;
  way : g.P.Pages.tells → (table : ℕ) (levels : List (List InnerNode)) (leaves : List TreeLeaf) → IsTreeOf (g.P.Pages.shape l.fn.pages).pages (g.P.Pages.contents l.fn.pages) table l.fn.root.0 levels leaves → OnWay (g.P.Pages.shape l.fn.pages).pages (g.P.Pages.contents l.fn.pages) table leaves l.key l.at.0 l.height;
}

abbrev pub decreases-down : goal.decreases-down
decreases-down g l = l.height
