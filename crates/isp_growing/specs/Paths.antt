-- The path from the leaf of a key up to the root: the page on each level.
use Rattle.std.specs.Prelude.{◌≡◌, ℕ, suc, ◌<◌, ◌≤◌, ℤ, List, [], ◌∷◌, Option, Some, Result, IfErr, IfOk, OnOk, length, slice_index}
use Rattle.std.specs.Option.{option_map}
use Rattle.isp_format.specs.Header.{header_of}
use Rattle.isp_format.specs.Ranges.{page_of}
use Rattle.isp_page.specs.Calls.{Continues}
use Rattle.isp_page.specs.declared.fault.StoreFault.{StoreFault}
use Rattle.isp_page.specs.declared.pages.Pages.{Ghosts}
use Rattle.isp_cells.specs.LeafPages.{SaysTree}
use Rattle.isp_levels.specs.Inners.{page_in_leaf}
use Rattle.isp_levels.specs.Levels.{InnerNode, TreeLeaf, most_levels, pick_leaf, pick_node}
use Rattle.isp_levels.specs.Walks.{NamesAny}
use Rattle.isp_growth.specs.Growing.{ups}
use Rattle.isp_growing.specs.declared.path.Path.{Path}

abbrev pub page_in_node : Option InnerNode → Option ℕ
page_in_node node = option_map (λ (n : InnerNode). n.page) node

-- from that place on the path has the pages by which the key goes on, the lowest level first
abbrev pub IsPath : ℤ → List ℕ → ℕ → List (List InnerNode) → Type 0
IsPath key path at [] = Unit {0}
IsPath key path at (level ∷ up) = (page_in_node (pick_node key level) ≡ Some (slice_index path at)) × IsPath key path (suc at) up

pub record IsPathTo (key : ℤ) (levels : List (List InnerNode)) (leaves : List TreeLeaf) (path : Path) : Type 0 where
  pub height : path.height ≡ length levels
  pub leaf : page_in_leaf (pick_leaf key leaves) ≡ Some (slice_index path.pages 0)
  pub above : IsPath key path.pages 1 (ups levels [])

-- a call that finds a path of pages of the file
pub record FindsPath {S : Type 0} (g : Ghosts S) (root : ℕ) (old new : S) (result : Result Path StoreFault) : Type 0 where
  pub kept : Continues g old new result
  pub contents : g.tells → OnOk result (g.contents new ≡ g.contents old)
  pub mini : OnOk result (g.mini new ≡ g.mini old)
  pub says : g.tells → OnOk result (SaysTree root (header_of (page_of (g.contents old) root)))
  pub inside : IfOk result (λ path. (k : ℕ) → slice_index path.pages k < (g.shape old).pages)
  pub low : IfOk result (λ path. path.height ≤ most_levels)
  pub names : IfErr result (NamesAny (g.shape old).pages)
