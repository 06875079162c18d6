-- An R-tree as its pages (Guttman 1984), each with the sequence number and the right link by which a reader can tell
-- that it was split (Kornacker, Mohan and Hellerstein 1997). Nothing here says that the pages fit together: `Forest` does.
use Rattle.std.specs.Prelude.{ℕ, ◌==◌, cond, Option, Some, None, List, [], ◌∷◌, ◌++◌, filter_map, pos}
use Rattle.isp_mbr.specs.Corners.{Corners}
use Rattle.isp_mbr.specs.Boxes.{union}
use Rattle.isp_forest.specs.declared.entry.Entry.{Entry}
use Rattle.isp_forest.specs.declared.entry.To.{To}
use Rattle.isp_forest.specs.declared.entry.To.TheVariants.{Child, Row}

-- a page: its level, 0 at a leaf; its sequence number; its right link; its entries
pub record Node : Type 0 where
  pub level : ℕ
  pub ssn : ℕ
  pub next : Option ℕ
  pub entries : List Entry

-- the number of the root, and the pages with their numbers
pub record Tree : Type 0 where
  pub root : ℕ
  pub pages : List (ℕ × Node)

abbrev pub page_in : List (ℕ × Node) → ℕ → Option Node
page_in [] q = None
page_in (p ∷ rest) q = cond (p.0 == q) (Some p.1) (page_in rest q)

-- the page of that number
abbrev pub page_at : Tree → ℕ → Option Node
page_at tree q = page_in tree.pages q

abbrev pub ssn_of : Option Node → ℕ
ssn_of None = 0
ssn_of (Some page) = page.ssn

-- the last sequence number that the tree has given: the root's
abbrev pub counter : Tree → ℕ
counter tree = ssn_of (page_at tree tree.root)

-- the page that an entry names
abbrev pub child_in : To → Option ℕ
child_in (Child p) = Some p.0
child_in (Row key number) = None

abbrev pub child_of : Entry → Option ℕ
child_of e = child_in e.to

-- the pages that entries name, in order
abbrev pub children : List Entry → List ℕ
children es = filter_map child_of es

abbrev pub numbers : List (ℕ × Node) → List ℕ
numbers [] = []
numbers (p ∷ rest) = p.0 ∷ numbers rest

-- the pages that entries on these pages name
abbrev pub named : List (ℕ × Node) → List ℕ
named [] = []
named (p ∷ rest) = children p.1.entries ++ named rest

abbrev pub around : Corners → List Entry → Corners
around b [] = b
around b (e ∷ es) = union e.b (around b es)

-- the least box round all entries, of which there is one at least
abbrev pub least : List Entry → Corners
least [] = record { x1 = pos 0; y1 = pos 0; x2 = pos 0; y2 = pos 0 }
least (e ∷ es) = around e.b es
