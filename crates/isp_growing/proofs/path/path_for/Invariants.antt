use Rattle.std.proofs.Common.{◌≡◌, ◌<◌, ◌≤◌, ℕ, List, length}
use Rattle.std.specs.Prelude.{slice_index}
use Rattle.isp_page.specs.Calls.{Continued}
use Rattle.isp_levels.specs.Levels.{InnerNode, IsTreeOf, TreeLeaf}
use Rattle.isp_growing.proofs.PathLaws.{OnPath}
use Rattle.isp_growing.proofs.path.path_for.Given as goal

abbrev pub invariant-down : goal.invariant-down
invariant-down g l = record {
  kept : Continued g.P.Pages l.fn.pages l.pages;
  contents : g.P.Pages.tells → g.P.Pages.contents l.pages ≡ g.P.Pages.contents l.fn.pages;
  mini : g.P.Pages.mini l.pages ≡ g.P.Pages.mini l.fn.pages;
  inside : l.at.0 < (g.P.Pages.shape l.fn.pages).pages;
  low : l.height ≤ 15;
  long : length l.way ≡ 16;
  entries : (k : ℕ) → slice_index l.way k < (g.P.Pages.shape l.fn.pages).pages;
  path : g.P.Pages.tells → (table : ℕ) (levels : List (List InnerNode)) (leaves : List TreeLeaf) → IsTreeOf (g.P.Pages.shape l.fn.pages).pages (g.P.Pages.contents l.fn.pages) table l.fn.root.0 levels leaves → OnPath (g.P.Pages.shape l.fn.pages).pages (g.P.Pages.contents l.fn.pages) table levels leaves l.key l.at.0 l.height l.way;
}

abbrev pub decreases-down : goal.decreases-down
decreases-down g l = l.height
