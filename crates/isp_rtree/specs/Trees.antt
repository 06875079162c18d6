-- An R-tree in the contents of a file: each of its pages stands there as a node, and they fit together (Guttman 1984).
use Rattle.std.specs.Prelude.{◌≡◌, ℕ, ◌<◌, ◌≤◌, Option, Some, None, List, length}
use Rattle.isp_base.specs.Lists.{Has}
use Rattle.isp_format.specs.Empty.{first_fresh}
use Rattle.isp_format.specs.Header.{header_of}
use Rattle.isp_format.specs.Ranges.{Contents, page_of}
use Rattle.isp_page.specs.State.{FileShape}
use Rattle.isp_forest.specs.declared.entry.Entry.{Entry}
use Rattle.isp_forest.specs.declared.entry.Seen.{Seen}
use Rattle.isp_forest.specs.Forest.{Forest}
use Rattle.isp_forest.specs.Tree.{Node, Tree, child_of, page_at}
use Rattle.isp_rnode.specs.Nodes.{IsNode, link_of, node_of}

-- how high above the leaves a root stands at most, so that a path has at most 17 pages
abbrev pub most_level : ℕ
most_level = 16

-- The contents of a file of that shape hold the tree, with that owner: its pages stand there as nodes, none has more entries than
-- the fan-out, and they are a forest.
pub record IsTreeIn (contents : Contents) (shape : FileShape) (owner : ℕ) (tree : Tree) : Type 0 where
  pub nodes : (q : ℕ) (page : Node) → page_at tree q ≡ Some page → IsNode owner q page (page_of contents q)
  pub few : (q : ℕ) (page : Node) → page_at tree q ≡ Some page → length page.entries ≤ shape.fanout
  pub inside : (q : ℕ) (page : Node) → page_at tree q ≡ Some page → (first_fresh ≤ q) × (q < shape.pages)
  pub forest : Forest tree

-- the same of a tree on that root
pub record IsTreeAt (contents : Contents) (shape : FileShape) (owner root : ℕ) (tree : Tree) : Type 0 where
  pub is : IsTreeIn contents shape owner tree
  pub root_is : tree.root ≡ root

-- all pages of the tree have the same bytes
abbrev pub KeepsTree : Tree → Contents → Contents → Type 0
KeepsTree tree old new = (q : ℕ) (page : Node) → page_at tree q ≡ Some page → page_of new q ≡ page_of old q

-- ---- a page of a tree, by its bytes alone

-- where an entry leads to a page, that is one of a file of so many pages
abbrev pub IsInside : ℕ → Option ℕ → Type 0
IsInside pages None = Unit {0}
IsInside pages (Some q) = q < pages

abbrev pub LeadsInside : ℕ → List Entry → Type 0
LeadsInside pages entries = (e : Entry) → Has entries e → IsInside pages (child_of e)

-- the bytes are a node of that owner and of page q, which leads to pages of a file of so many pages
pub record IsPageOf (pages owner q : ℕ) (bytes : List ℕ) : Type 0 where
  pub node : IsNode owner q (node_of bytes) bytes
  pub children : LeadsInside pages (node_of bytes).entries

-- the bytes are a page of a tree of that owner, whichever it is
abbrev pub IsRead : ℕ → ℕ → List ℕ → Type 0
IsRead pages owner bytes = IsPageOf pages owner (header_of bytes).own bytes

-- the same of a root, which is no higher than the pages of a file allow
pub record IsRootOf (pages owner q : ℕ) (bytes : List ℕ) : Type 0 where
  pub page : IsPageOf pages owner q bytes
  pub low : (header_of bytes).level ≤ most_level

-- the contents hold the tree, and the bytes are those of its page q
pub record IsAtPage (contents : Contents) (shape : FileShape) (owner : ℕ) (tree : Tree) (q : ℕ) (bytes : List ℕ) : Type 0 where
  pub is : IsTreeIn contents shape owner tree
  pub node : Node
  pub there : page_at tree q ≡ Some node
  pub read : bytes ≡ page_of contents q

-- ---- what is seen of a page

-- this is seen of a page of a tree with that counter
pub record IsSeen (page : Node) (counter : ℕ) (seen : Seen) : Type 0 where
  pub level : seen.level ≡ page.level
  pub ssn : seen.ssn ≡ page.ssn
  pub next : link_of seen.next.0 ≡ page.next
  pub counter_is : seen.counter ≡ counter
  pub entries : seen.entries.items ≡ page.entries
