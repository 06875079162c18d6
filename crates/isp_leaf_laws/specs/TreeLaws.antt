-- What the small steps of a tree leave alone, whatever its right links are: it stays a forest, its pages stay pages, and but for the
-- root none rises (Guttman 1984). A tree that is read from a file has no more to build on.
use Rattle.std.specs.Prelude.{◌≡◌, ◌⊎◌, ◌≤◌, ◌^◌, ℕ, suc, ℤ, ◌==◌, false, Some, None, List, [], ◌∷◌, length, reverse}
use Rattle.isp_mbr.specs.Corners.{Corners}
use Rattle.isp_mbr.specs.Boxes.{IsBox}
use Rattle.isp_forest.specs.declared.entry.Entry.{Entry}
use Rattle.isp_base.specs.Lists.{Has}
use Rattle.isp_forest.specs.Tree.{Node, Tree, page_at, counter, child_of}
use Rattle.isp_forest.specs.Forest.{Forest}
use Rattle.isp_forest.specs.Steps.{is_among, names, add, raise, split, remove}
use Rattle.isp_forest.specs.Place.{Stands, IsFree, CanRaise, CanSplit, CanRelieve, Division, place}

-- ---- each step keeps the forest

abbrev pub AddKeepsForest : Type 0
AddKeepsForest =
    (tree : Tree) (path : List ℕ) (box : Corners) (key : ℤ) (number : ℕ)
    → Forest tree → Stands tree path → IsBox box → Forest (add tree path box key number)

abbrev pub RaiseKeepsForest : Type 0
RaiseKeepsForest = (tree : Tree) (q : ℕ) → Forest tree → CanRaise tree q → Forest (raise tree q)

abbrev pub SplitKeepsForest : Type 0
SplitKeepsForest =
    (tree : Tree) (o above : ℕ) (left right : List Entry) (n : ℕ)
    → Forest tree → CanSplit tree o above left right n → Forest (split tree o above left right n)

abbrev pub RemoveKeepsForest : Type 0
RemoveKeepsForest = (tree : Tree) (number : ℕ) → Forest tree → Forest (remove tree number)

abbrev pub PlaceKeepsForest : Type 0
PlaceKeepsForest =
    (tree : Tree) (path : List ℕ) (box : Corners) (key : ℤ) (number q : ℕ) (divisions : List Division)
    → Forest tree → Stands tree path → IsBox box → CanRelieve (add tree path box key number) q (reverse path) divisions
    → Forest (place tree path box key number q divisions)

-- a root leaf without an entry
abbrev pub EmptyIsForest : Type 0
EmptyIsForest = (root : ℕ) → Forest (record { root = root; pages = (root, record { level = 0; ssn = 0; next = None; entries = [] }) ∷ [] })

-- ---- what stays of the pages

-- the page is there, on its level if it isn't the root, which may have risen
pub record StaysPage (root : ℕ) (after : Tree) (p : ℕ) (page : Node) : Type 0 where
  pub new : Node
  pub there : page_at after p ≡ Some new
  pub level : (p == root) ≡ false → new.level ≡ page.level
  pub no_lower : page.level ≤ new.level

-- the root's number stays, each page stays, and the counter never falls
pub record StaysTree (tree after : Tree) : Type 0 where
  pub root : after.root ≡ tree.root
  pub pages : (p : ℕ) (page : Node) → page_at tree p ≡ Some page → StaysPage tree.root after p page
  pub counter : counter tree ≤ counter after

abbrev pub AddLeavesPages : Type 0
AddLeavesPages = (tree : Tree) (path : List ℕ) (box : Corners) (key : ℤ) (number : ℕ) → StaysTree tree (add tree path box key number)

abbrev pub RaiseLeavesPages : Type 0
RaiseLeavesPages = (tree : Tree) (q : ℕ) → Forest tree → IsFree tree q → StaysTree tree (raise tree q)

abbrev pub SplitLeavesPages : Type 0
SplitLeavesPages =
    (tree : Tree) (o above : ℕ) (left right : List Entry) (n : ℕ)
    → Forest tree → CanSplit tree o above left right n → StaysTree tree (split tree o above left right n)

abbrev pub RemoveLeavesPages : Type 0
RemoveLeavesPages = (tree : Tree) (number : ℕ) → StaysTree tree (remove tree number)

abbrev pub PlaceLeavesPages : Type 0
PlaceLeavesPages =
    (tree : Tree) (path : List ℕ) (box : Corners) (key : ℤ) (number q : ℕ) (divisions : List Division)
    → Forest tree → Stands tree path → IsBox box → CanRelieve (add tree path box key number) q (reverse path) divisions
    → StaysTree tree (place tree path box key number q divisions)

-- ---- what a placing changes

-- the pages that the splits from the page at hand up take, and the raise of the root, if there is one
abbrev pub new_pages : ℕ → List ℕ → List Division → List ℕ
new_pages q up [] = []
new_pages q [] (d ∷ ds) = []
new_pages q (o ∷ []) (d ∷ ds) = q ∷ d.page ∷ []
new_pages q (o ∷ above ∷ up) (d ∷ ds) = d.page ∷ new_pages q (above ∷ up) ds

-- the entry stands on page p, which has that level
pub record IsOnPage (tree : Tree) (p level : ℕ) (e : Entry) : Type 0 where
  pub page : Node
  pub there : page_at tree p ≡ Some page
  pub same_level : page.level ≡ level
  pub has : Has page.entries e

-- the entry stands, with its box, on its page or on one of these
pub record IsKept (after : Tree) (p level : ℕ) (e : Entry) (new : List ℕ) : Type 0 where
  pub q : ℕ
  pub on : IsOnPage after q level e
  pub is_there : (q ≡ p) ⊎ Has new q

-- no page changes but those on the path and the new ones; and of each page every entry is kept, but for those that name a page of
-- the path, whose boxes may change
pub record ChangesPath (tree after : Tree) (path new : List ℕ) : Type 0 where
  pub others : (p : ℕ) → is_among path p ≡ false → is_among new p ≡ false → page_at after p ≡ page_at tree p
  pub entries : (p level : ℕ) (e : Entry) → IsOnPage tree p level e → names (is_among path) (child_of e) ≡ false → IsKept after p level e new

abbrev pub PlaceChangesPath : Type 0
PlaceChangesPath =
    (tree : Tree) (path : List ℕ) (box : Corners) (key : ℤ) (number q : ℕ) (divisions : List Division)
    → Forest tree → Stands tree path → IsBox box → CanRelieve (add tree path box key number) q (reverse path) divisions
    → ChangesPath tree (place tree path box key number q divisions) path (new_pages q (reverse path) divisions)

-- ---- how deep a tree is

-- a root at level l + 1 has at least 2 ^ l pages below it and with it
abbrev pub DeepIsLarge : Type 0
DeepIsLarge = (tree : Tree) (forest : Forest tree) (l : ℕ) → forest.top.level ≡ suc l → 2 ^ l ≤ length tree.pages
