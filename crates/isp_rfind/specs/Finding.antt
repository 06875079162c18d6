-- An entry that is looked for by its box and its number.
use Rattle.std.specs.Prelude.{◌≡◌, ℕ, true, Option, Some, None, ⊤}
use Rattle.isp_base.specs.Lists.{Has}
use Rattle.isp_base.specs.declared.page_no.PageNo.{PageNo}
use Rattle.isp_format.specs.Ranges.{page_of}
use Rattle.isp_page.specs.declared.pages.Pages.{Ghosts}
use Rattle.isp_mbr.specs.Corners.{Corners}
use Rattle.isp_forest.specs.declared.entry.Entry.{Entry}
use Rattle.isp_forest.specs.Steps.{is_row}
use Rattle.isp_forest.specs.Tree.{Node, Tree, page_at}
use Rattle.isp_rnode.specs.Nodes.{node_of}
use Rattle.isp_rtree.specs.Calls.{HasPage}

-- it is the row's entry with that box and number
pub record IsSought (b : Corners) (number : ℕ) (e : Entry) : Type 0 where
  pub box_is : e.b ≡ b
  pub is_number : is_row number e.to ≡ true

-- page p of the tree has it
pub record HasSought (tree : Tree) (b : Corners) (number p : ℕ) : Type 0 where
  pub page : Node
  pub there : page_at tree p ≡ Some page
  pub entry : Entry
  pub has : Has page.entries entry
  pub is : IsSought b number entry

-- the page that has it is found, or none has it
abbrev pub Finds : Tree → Corners → ℕ → Option PageNo → Type 0
Finds tree b number None = (p : ℕ) → HasSought tree b number p → ⊥
Finds tree b number (Some p) = HasSought tree b number p.0

-- the same of a page by itself
abbrev pub HasEntry : Node → Corners → ℕ → Type 0
HasEntry page b number = (e : Entry) × Has page.entries e × IsSought b number e

-- the page that is answered is one of that owner, and has it, whatever else stands in the store
abbrev pub HasFound : {S : Type 0} → Ghosts S → S → ℕ → Corners → ℕ → Option PageNo → Type 0
HasFound g now owner b number None = ⊤
HasFound g now owner b number (Some p) = HasPage g now owner p.0 × HasEntry (node_of (page_of (g.contents now) p.0)) b number
