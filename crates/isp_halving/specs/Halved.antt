-- What one page of a tree in two makes of the contents and of the space.
use Rattle.std.specs.Prelude.{◌≡◌, ℕ, suc, List, [], ◌∷◌, drop, take}
use Rattle.isp_base.specs.declared.page_no.PageNo.{PageNo}
use Rattle.isp_cells.specs.LeafPages.{IsLeaf}
use Rattle.isp_format.specs.Inner.{IsInnerPage, Name}
use Rattle.isp_format.specs.Leaf.{Stored}
use Rattle.isp_format.specs.Ranges.{Contents, page_of}
use Rattle.isp_levels.specs.Dividing.{first_key, first_low, halves, left_names}
use Rattle.isp_levels.specs.Levels.{least_key}
use Rattle.isp_page.specs.declared.pages.Pages.{Ghosts}
use Rattle.isp_space.specs.Spaces.{IsSpace, Space, next_free, taken}
use Rattle.isp_halving.specs.declared.Entry.{Entry}

-- the leaf has the left part of these rows and links to the page that was free next, which has the right part
pub record IsLeafHalved (pages : ℕ) (new : Contents) (table page next : ℕ) (rows : List Stored) (s : Space) (entry : Entry) : Type 0 where
  pub is_next : entry.page.0 ≡ next_free s
  pub left : IsLeaf (page_of new page) table page entry.page.0 (take (halves rows) rows)
  pub right_is : IsLeaf (page_of new entry.page.0) table entry.page.0 next (drop (halves rows) rows)
  pub key_is : entry.key ≡ first_key (drop (halves rows) rows)
  pub is_space : IsSpace pages new (taken s)

-- the same of a page above the leaves, and of its entries
pub record IsInnerHalved (pages : ℕ) (new : Contents) (table page level : ℕ) (names : List Name) (s : Space) (entry : Entry) : Type 0 where
  pub is_next : entry.page.0 ≡ next_free s
  pub left : IsInnerPage (page_of new page) table page level (take left_names names)
  pub right_is : IsInnerPage (page_of new entry.page.0) table entry.page.0 level (drop left_names names)
  pub key_is : entry.key ≡ first_low least_key (drop left_names names)
  pub is_space : IsSpace pages new (taken s)

-- what stood on the root's page stands on the page that was free next, and the root has one entry, which leads there
pub record IsRaised (pages : ℕ) (new : Contents) (table root level : ℕ) (s : Space) (to : ℕ) : Type 0 where
  pub is_next : to ≡ next_free s
  pub root_is : IsInnerPage (page_of new root) table root (suc level) ((least_key, to) ∷ [])
  pub is_space : IsSpace pages new (taken s)

abbrev pub HalvesLeaf : {S : Type 0} → Ghosts S → S → ℕ → ℕ → ℕ → List Stored → Space → Entry → Type 0
HalvesLeaf g new table page next rows s entry = IsLeafHalved (g.shape new).pages (g.contents new) table page next rows s entry

abbrev pub HalvesInner : {S : Type 0} → Ghosts S → S → ℕ → ℕ → ℕ → List Name → Space → Entry → Type 0
HalvesInner g new table page level names s entry = IsInnerHalved (g.shape new).pages (g.contents new) table page level names s entry

abbrev pub RaisesLeaf : {S : Type 0} → Ghosts S → S → ℕ → ℕ → ℕ → List Stored → Space → PageNo → Type 0
RaisesLeaf g new table root next rows s to = IsRaised (g.shape new).pages (g.contents new) table root 0 s to.0 × IsLeaf (page_of (g.contents new) to.0) table to.0 next rows

abbrev pub RaisesInner : {S : Type 0} → Ghosts S → S → ℕ → ℕ → ℕ → List Name → Space → PageNo → Type 0
RaisesInner g new table root level names s to = IsRaised (g.shape new).pages (g.contents new) table root level s to.0 × IsInnerPage (page_of (g.contents new) to.0) table to.0 level names
