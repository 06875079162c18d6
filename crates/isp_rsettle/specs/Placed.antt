-- What a settled plan says of a tree: its pages, over the tree's old ones, are those of the tree in which the entry was placed.
use Rattle.std.specs.Prelude.{◌≡◌, ℕ, ℤ, ◌+◌, ◌≤◌, Option, Some, None, List, [], ◌∷◌, ◌++◌, length, map, reverse}
use Rattle.isp_base.specs.Lists.{Has, times}
use Rattle.isp_base.specs.declared.page_no.PageNo.{PageNo}
use Rattle.isp_format.specs.Control.{IsFanout}
use Rattle.isp_mbr.specs.Boxes.{IsBox}
use Rattle.isp_mbr.specs.Corners.{Corners}
use Rattle.isp_forest.specs.declared.entry.To.TheVariants.{Row}
use Rattle.isp_forest.specs.Attach.{box_of}
use Rattle.isp_forest.specs.Forest.{Forest}
use Rattle.isp_forest.specs.Place.{CanRelieve, Division, IsFree, Stands, place}
use Rattle.isp_forest.specs.Steps.{add, split}
use Rattle.isp_forest.specs.Tree.{Node, Tree, counter, least, numbers, page_at, page_in}
use Rattle.isp_rnode.specs.Nodes.{link_of}
use Rattle.isp_rplan.specs.Divisions.{divisions, pages_needed, raised_to}
use Rattle.isp_rplan.specs.Plans.{DividesAll, IsPlan}
use Rattle.isp_rplan.specs.declared.steps.Carry.TheVariants.{Added}
use Rattle.isp_rplan.specs.declared.steps.PathPage.{PathPage}
use Rattle.isp_rplan.specs.declared.steps.Planned.{Planned}
use Rattle.isp_rsettle.specs.declared.outcome.Parted.{Parted}
use Rattle.isp_rsettle.specs.declared.outcome.Raised.{Raised}
use Rattle.isp_rsettle.specs.Settling.{parts, raised, settled}

-- ---- the pages of a path as they were read

abbrev pub page_number : PageNo → ℕ
page_number p = p.0

abbrev pub path_number : PathPage → ℕ
path_number p = p.page.0

-- a page of the tree
pub record IsPathPage (tree : Tree) (p : PathPage) : Type 0 where
  pub node : Node
  pub there : page_at tree p.page.0 ≡ Some node
  pub level : p.head.level ≡ node.level
  pub ssn : p.head.ssn ≡ node.ssn
  pub next : link_of p.head.next.0 ≡ node.next
  pub entries : p.entries.items ≡ node.entries

-- the pages with these numbers, in that order
pub record ArePathPages (tree : Tree) (path : List ℕ) (pages : List PathPage) : Type 0 where
  pub numbers : map path_number pages ≡ path
  pub each : (p : PathPage) → Has pages p → IsPathPage tree p

-- ---- what is told of a placing

-- the two pages of a division, with their boxes
pub record IsParted (old : ℕ) (d : Division) (p : Parted) : Type 0 where
  pub old_is : p.old.0 ≡ old
  pub new_is : p.new.0 ≡ d.page
  pub old_box : p.old_box ≡ least d.left
  pub new_box : p.new_box ≡ least d.right

-- one for each division from the page at hand up; the root's content moved to page q first
abbrev pub AreParted : ℕ → List ℕ → List Division → List Parted → Type 0
AreParted q up [] told = told ≡ []
AreParted q [] (d ∷ ds) told = ⊥
AreParted q (o ∷ up) (d ∷ ds) [] = ⊥
AreParted q (o ∷ []) (d ∷ ds) (p ∷ told) = IsParted q d p × (ds ≡ []) × (told ≡ [])
AreParted q (o ∷ above ∷ up) (d ∷ ds) (p ∷ told) = IsParted o d p × AreParted q (above ∷ up) ds told

-- the page of a raised root's content, with the box round all that moved there, if the root was raised
abbrev pub IsRaised : Tree → ℕ → List ℕ → List Division → Option Raised → Type 0
IsRaised tree q up [] told = told ≡ None
IsRaised tree q [] (d ∷ ds) told = told ≡ None
IsRaised tree q (o ∷ []) (d ∷ ds) told = told ≡ Some (record { page = record { 0 = q }; round = box_of (page_at tree tree.root) })
IsRaised tree q (o ∷ above ∷ up) (d ∷ ds) told = IsRaised (split tree o above d.left d.right d.page) q (above ∷ up) ds told

-- the pages that are taken, in their order: a raised root's before its right one
abbrev pub pages_taken : ℕ → List ℕ → List Division → List ℕ
pages_taken q up [] = []
pages_taken q [] (d ∷ ds) = []
pages_taken q (o ∷ []) (d ∷ ds) = q ∷ d.page ∷ []
pages_taken q (o ∷ above ∷ up) (d ∷ ds) = d.page ∷ pages_taken q (above ∷ up) ds

-- ---- the law

-- a path that stands in a whole tree, its pages as they were read, a plan for them, and pages that no tree has
pub record CanSettle (fanout : ℕ) (tree : Tree) (path : List ℕ) (b : Corners) (pages : List PathPage) (steps : List Planned) (news : List PageNo) : Type 0 where
  pub forest : Forest tree
  pub few : (q : ℕ) (page : Node) → page_at tree q ≡ Some page → length page.entries ≤ fanout
  pub none : page_at tree 0 ≡ None
  pub fan : IsFanout fanout
  pub box : IsBox b
  pub stands : Stands tree path
  pub are : ArePathPages tree path pages
  pub plan : IsPlan fanout b (reverse pages) (Added b) steps
  pub count : length news ≡ pages_needed steps
  pub free : (q : ℕ) → Has (map page_number news) q → IsFree tree q
  pub once : (q : ℕ) → times q (0 ∷ map page_number news) ≤ 1

-- the tree in which the entry was placed
abbrev pub placed : Tree → List ℕ → Corners → ℤ → ℕ → List Planned → List PageNo → Tree
placed tree path b key number steps news = place tree path b key number (raised_to steps news) (divisions (Row key number) steps news)

abbrev pub settled_pages : Tree → ℤ → ℕ → List Planned → List PageNo → List (ℕ × Node)
settled_pages tree key number steps news = settled (counter tree) (Row key number) steps news

pub record IsSettled (fanout : ℕ) (tree : Tree) (path : List ℕ) (b : Corners) (key : ℤ) (number : ℕ) (steps : List Planned) (news : List PageNo) : Type 0 where
  pub can : CanRelieve (add tree path b key number) (raised_to steps news) (reverse path) (divisions (Row key number) steps news)
  pub divides : DividesAll fanout (add tree path b key number) (raised_to steps news) (reverse path) (divisions (Row key number) steps news)
  -- the settled pages stand before the old ones, and have no more entries than the fan-out
  pub pages : (x : ℕ) → page_at (placed tree path b key number steps news) x ≡ page_in (settled_pages tree key number steps news ++ tree.pages) x
  pub few : (p : ℕ × Node) → Has (settled_pages tree key number steps news) p → length p.1.entries ≤ fanout
  -- they are those of the path and those that are taken
  pub are : (x : ℕ) → times x (numbers (settled_pages tree key number steps news)) ≡ times x path + times x (map page_number news)
  pub all : (x : ℕ) → times x (numbers (placed tree path b key number steps news).pages) ≡ times x (numbers tree.pages) + times x (map page_number news)
  pub root : (placed tree path b key number steps news).root ≡ tree.root
  pub counted : counter (placed tree path b key number steps news) ≡ counter tree + length (divisions (Row key number) steps news)
  pub taken : pages_taken (raised_to steps news) (reverse path) (divisions (Row key number) steps news) ≡ map page_number news
  pub parted : AreParted (raised_to steps news) (reverse path) (divisions (Row key number) steps news) (parts steps news)
  pub raises : IsRaised (add tree path b key number) (raised_to steps news) (reverse path) (divisions (Row key number) steps news) (raised steps news)

abbrev pub Settles : Type 0
Settles =
    (fanout : ℕ) (tree : Tree) (path : List ℕ) (b : Corners) (key : ℤ) (number : ℕ) (pages : List PathPage) (steps : List Planned) (news : List PageNo)
    → CanSettle fanout tree path b pages steps news → IsSettled fanout tree path b key number steps news
