-- A path down a tree, a division of a page, and the placing of an entry: it is added at the end of the path, and from the
-- leaf up each page that overflows is split, the root after it was raised (Guttman 1984).
use Rattle.std.specs.Prelude.{◌≡◌, ℕ, ℤ, ◌<◌, ◌≤◌, Some, None, List, [], ◌∷◌, ◌++◌, length, reverse, IsPermutation}
use Rattle.isp_mbr.specs.Corners.{Corners}
use Rattle.isp_forest.specs.declared.entry.Entry.{Entry}
use Rattle.isp_base.specs.Lists.{Has}
use Rattle.isp_forest.specs.Tree.{Node, Tree, page_at, child_of}
use Rattle.isp_forest.specs.Steps.{add, raise, split}

-- page p has the entry, and the entry names page q
pub record Names (tree : Tree) (p q : ℕ) (e : Entry) : Type 0 where
  pub page : Node
  pub there : page_at tree p ≡ Some page
  pub has : Has page.entries e
  pub to : child_of e ≡ Some q

-- each page of the list has an entry for the next
abbrev pub IsPath : Tree → List ℕ → Type 0
IsPath tree [] = Unit {0}
IsPath tree (p ∷ []) = Unit {0}
IsPath tree (p ∷ q ∷ rest) = ((e : Entry) × Names tree p q e) × IsPath tree (q ∷ rest)

-- the last page of the list is a leaf of the tree
abbrev pub EndsOnLeaf : Tree → List ℕ → Type 0
EndsOnLeaf tree [] = ⊥
EndsOnLeaf tree (p ∷ []) = (leaf : Node) × (page_at tree p ≡ Some leaf) × (leaf.level ≡ 0)
EndsOnLeaf tree (p ∷ q ∷ rest) = EndsOnLeaf tree (q ∷ rest)

abbrev pub StartsAt : ℕ → List ℕ → Type 0
StartsAt root [] = ⊥
StartsAt root (p ∷ rest) = p ≡ root

-- the path stands: it leads from the root to a leaf
pub record Stands (tree : Tree) (path : List ℕ) : Type 0 where
  pub starts : StartsAt tree.root path
  pub steps : IsPath tree path
  pub leaf : EndsOnLeaf tree path

abbrev pub IsFree : Tree → ℕ → Type 0
IsFree tree q = page_at tree q ≡ None

-- the two parts of the entries of a page of that level: none is empty, and on an inner page none has one entry alone
pub record IsDivision (level : ℕ) (entries left right : List Entry) : Type 0 where
  pub all : IsPermutation entries (left ++ right)
  pub left_some : 0 < length left
  pub right_some : 0 < length right
  pub left_two : 0 < level → 2 ≤ length left
  pub right_two : 0 < level → 2 ≤ length right

-- the raise of the root to page q, which no tree has; a root that is no leaf has two entries at least
pub record CanRaise (tree : Tree) (q : ℕ) : Type 0 where
  pub free : IsFree tree q
  pub two : (top : Node) → page_at tree tree.root ≡ Some top → 0 < top.level → 2 ≤ length top.entries

-- a split of page o, which the page above names, into these parts and the page n, which no tree has
pub record CanSplit (tree : Tree) (o above : ℕ) (left right : List Entry) (n : ℕ) : Type 0 where
  pub page : Node
  pub there : page_at tree o ≡ Some page
  pub entry : Entry
  pub named : Names tree above o entry
  pub parts : IsDivision page.level page.entries left right
  pub free : IsFree tree n

-- how one page was divided, and the number of its new page
pub record Division : Type 0 where
  pub page : ℕ
  pub left : List Entry
  pub right : List Entry

-- the splits from the page at hand up, where `up` is that page and those above it; the root is raised to page q first
abbrev pub relieve : Tree → ℕ → List ℕ → List Division → Tree
relieve tree q up [] = tree
relieve tree q [] (d ∷ ds) = tree
relieve tree q (o ∷ []) (d ∷ ds) = split (raise tree q) q o d.left d.right d.page
relieve tree q (o ∷ above ∷ up) (d ∷ ds) = relieve (split tree o above d.left d.right d.page) q (above ∷ up) ds

-- each of these splits can be made, the pages being free when they are taken, and is the last one where the root was raised
abbrev pub CanRelieve : Tree → ℕ → List ℕ → List Division → Type 0
CanRelieve tree q up [] = Unit {0}
CanRelieve tree q [] (d ∷ ds) = ⊥
CanRelieve tree q (o ∷ []) (d ∷ ds) = IsFree tree q × CanSplit (raise tree q) q o d.left d.right d.page × (ds ≡ [])
CanRelieve tree q (o ∷ above ∷ up) (d ∷ ds) =
    CanSplit tree o above d.left d.right d.page × CanRelieve (split tree o above d.left d.right d.page) q (above ∷ up) ds

abbrev pub place : Tree → List ℕ → Corners → ℤ → ℕ → ℕ → List Division → Tree
place tree path b key number q ds = relieve (add tree path b key number) q (reverse path) ds
