-- What the calls by which a tree grows ask of a store of pages, and what they leave alone; at a bound `P: Pages`.
use Rattle.std.specs.Prelude.{ℕ, ℤ, List, Result, IfErr, OnOk}
use Rattle.isp_cells.specs.LeafPages.{SaysTree}
use Rattle.isp_format.specs.Header.{header_of}
use Rattle.isp_format.specs.Ranges.{page_of}
use Rattle.isp_levels.specs.Levels.{InnerNode, TreeLeaf}
use Rattle.isp_page.specs.Calls.{Continues}
use Rattle.isp_page.specs.declared.fault.StoreFault.{StoreFault}
use Rattle.isp_page.specs.declared.pages.Pages.{Ghosts}
use Rattle.isp_space.specs.Changes.{ChangesBy}
use Rattle.isp_space.specs.Spaces.{Space}
use Rattle.isp_growing.specs.Grown.{CanGrow, IsGrown}

-- a call that changes at most so many pages of a tree on that page
pub record ChangesTree {S T : Type 0} (g : Ghosts S) (root : ℕ) (Names : StoreFault → Type 0) (most : ℕ) (old new : S) (result : Result T StoreFault) : Type 0 where
  pub kept : Continues g old new result
  pub changes : OnOk result (ChangesBy g most old new)
  pub says : g.tells → OnOk result (SaysTree root (header_of (page_of (g.contents old) root)))
  pub names : IfErr result Names

abbrev pub MayGrow : {S : Type 0} → Ghosts S → S → ℕ → ℕ → ℤ → List ℕ → List (List InnerNode) → List TreeLeaf → Space → TreeLeaf → Type 0
MayGrow g now table root key row levels leaves s leaf = CanGrow (g.shape now).pages (g.contents now) table root key row levels leaves s leaf

abbrev pub GrowsTree : {S : Type 0} → Ghosts S → S → S → ℕ → ℕ → ℤ → List ℕ → List (List InnerNode) → List TreeLeaf → Space → Type 0
GrowsTree g old new table root key row levels leaves s = IsGrown (g.shape new).pages (g.contents old) (g.contents new) table root key row levels leaves s
