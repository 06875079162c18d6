-- The pages that are still to be read, each with the level of the page above it.
use Rattle.std.specs.Prelude.{◌≡◌, ℕ, suc, ◌<◌, Bool, true, false, Option, Some, None, List, [], ◌∷◌, ◌++◌}
use Rattle.std.specs.List.{filter_map}
use Rattle.isp_base.specs.Lists.{Has}
use Rattle.isp_base.specs.declared.page_no.PageNo.{PageNo}
use Rattle.isp_format.specs.Header.{header_of}
use Rattle.isp_mbr.specs.Boxes.{covers}
use Rattle.isp_mbr.specs.Corners.{Corners}
use Rattle.isp_forest.specs.declared.entry.Entry.{Entry}
use Rattle.isp_forest.specs.declared.entry.To.{To}
use Rattle.isp_forest.specs.declared.entry.To.TheVariants.{Child, Row}
use Rattle.isp_forest.specs.Tree.{Node, Tree, page_at}
use Rattle.isp_rnode.specs.Nodes.{node_of}
use Rattle.isp_rfind.specs.declared.pending.Pending.{Pending}

-- the page that an entry leads to
abbrev pub pending_in : Bool → ℕ → To → Option Pending
pending_in false above to = None
pending_in true above (Row key number) = None
pending_in true above (Child p) = Some (record { page = p; above = above })

-- where the entry's box covers the one that is looked for
abbrev pub pending_of : ℕ → Corners → Entry → Option Pending
pending_of above b e = pending_in (covers e.b b) above e.to

-- the pages that a page leads to for a box
abbrev pub children_of : Corners → List ℕ → List Pending
children_of b bytes = filter_map (pending_of (header_of bytes).level b) (node_of bytes).entries

-- of these pages the last is taken, if there is one, and the others are left
abbrev pub Takes : List Pending → Option PageNo → List Pending → Type 0
Takes all None left = all ≡ []
Takes all (Some p) left = (s : Pending) × (all ≡ left ++ s ∷ []) × (s.page ≡ p)

-- all are pages of a file of so many
abbrev pub AreInside : ℕ → List Pending → Type 0
AreInside pages stack = (s : Pending) → Has stack s → s.page.0 < pages

-- each is a page of the tree, one level below the page that is named with it
abbrev pub AreNext : Tree → List Pending → Type 0
AreNext tree stack = (s : Pending) → Has stack s → (node : Node) × (page_at tree s.page.0 ≡ Some node) × (s.above ≡ suc node.level)
