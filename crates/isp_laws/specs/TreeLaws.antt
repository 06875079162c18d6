-- The laws of trees that split while searches go over them (Kornacker, Mohan and Hellerstein 1997): each small step keeps the
-- tree whole, whatever division and whatever free page it takes, and no step loses what a remembered page and number lead to.
use Rattle.std.specs.Prelude.{◌≡◌, ℕ, ℤ, ◌≤◌, true, Some, List, ◌∷◌, reverse}
use Rattle.isp_mbr.specs.Corners.{Corners}
use Rattle.isp_mbr.specs.Boxes.{IsBox, covers}
use Rattle.isp_forest.specs.declared.entry.Entry.{Entry}
use Rattle.isp_base.specs.Lists.{Has}
use Rattle.isp_forest.specs.Tree.{Node, Tree, page_at, counter}
use Rattle.isp_forest.specs.Forest.{Forest}
use Rattle.isp_forest.specs.Walk.{IsWalk, Follows, LinkedForest}
use Rattle.isp_forest.specs.Steps.{is_last, add, raise, split, put_after, remove}
use Rattle.isp_forest.specs.Place.{Names, IsPath, Stands, IsFree, CanRaise, CanSplit, CanRelieve, Division, place}

-- ---- each step keeps the tree whole

abbrev pub AddKeeps : Type 0
AddKeeps =
    (tree : Tree) (path : List ℕ) (box : Corners) (key : ℤ) (number : ℕ)
    → LinkedForest tree → Stands tree path → IsBox box → LinkedForest (add tree path box key number)

abbrev pub RaiseKeeps : Type 0
RaiseKeeps = (tree : Tree) (q : ℕ) → LinkedForest tree → CanRaise tree q → LinkedForest (raise tree q)

abbrev pub SplitKeeps : Type 0
SplitKeeps =
    (tree : Tree) (o above : ℕ) (left right : List Entry) (n : ℕ)
    → LinkedForest tree → CanSplit tree o above left right n → LinkedForest (split tree o above left right n)

abbrev pub RemoveKeeps : Type 0
RemoveKeeps = (tree : Tree) (number : ℕ) → LinkedForest tree → LinkedForest (remove tree number)

abbrev pub PlaceKeeps : Type 0
PlaceKeeps =
    (tree : Tree) (path : List ℕ) (box : Corners) (key : ℤ) (number q : ℕ) (divisions : List Division)
    → LinkedForest tree → Stands tree path → IsBox box → CanRelieve (add tree path box key number) q (reverse path) divisions
    → LinkedForest (place tree path box key number q divisions)

-- ---- what holds of a tree at any time

-- no other page has the root's level, and no right link leads to the root
abbrev pub RootIsAlone : Type 0
RootIsAlone =
    (tree : Tree) (forest : Forest tree) (q : ℕ) (page : Node) → page_at tree q ≡ Some page
    → (page.level ≡ forest.top.level → q ≡ tree.root) × (page.next ≡ Some tree.root → ⊥)

-- an entry on the last page of a way down lies in the box of the first page's entry for the second, so in each box on the way
abbrev pub BoxesOnTheWay : Type 0
BoxesOnTheWay =
    (tree : Tree) → Forest tree → (p q : ℕ) (rest : List ℕ) (d : Entry) (last : ℕ) (page : Node) (e : Entry)
    → Names tree p q d → IsPath tree (q ∷ rest) → is_last (q ∷ rest) last ≡ true → page_at tree last ≡ Some page → Has page.entries e
    → covers d.b e.b ≡ true

-- ---- walks

abbrev pub LinksNeverLeadBack : Type 0
LinksNeverLeadBack = (tree : Tree) → LinkedForest tree → (n p : ℕ) → Follows tree n p p → ⊥

abbrev pub WalksEnd : Type 0
WalksEnd = (tree : Tree) → LinkedForest tree → (p s : ℕ) → (rest : List ℕ) × IsWalk tree s (p ∷ rest)

-- a page and a number lead to one list of pages
abbrev pub WalksAreOne : Type 0
WalksAreOne = (tree : Tree) (s p : ℕ) (v w : List ℕ) → IsWalk tree s (p ∷ v) → IsWalk tree s (p ∷ w) → v ≡ w

-- the new page of a split comes right after the old one on each walk with a number that was given before
abbrev pub WalksAfterSplit : Type 0
WalksAfterSplit =
    (tree : Tree) (o above : ℕ) (left right : List Entry) (n s p : ℕ) (rest : List ℕ) (page : Node)
    → Forest tree → CanSplit tree o above left right n → s ≤ counter tree → page_at tree p ≡ Some page → IsWalk tree s (p ∷ rest)
    → IsWalk (split tree o above left right n) s (put_after o n (p ∷ rest))

abbrev pub WalksStayAtAdd : Type 0
WalksStayAtAdd =
    (tree : Tree) (path : List ℕ) (box : Corners) (key : ℤ) (number s : ℕ) (walk : List ℕ)
    → IsWalk tree s walk → IsWalk (add tree path box key number) s walk

abbrev pub WalksStayAtRaise : Type 0
WalksStayAtRaise =
    (tree : Tree) (q s : ℕ) (walk : List ℕ) → Forest tree → IsFree tree q → IsWalk tree s walk → IsWalk (raise tree q) s walk

abbrev pub WalksStayAtRemove : Type 0
WalksStayAtRemove = (tree : Tree) (number s : ℕ) (walk : List ℕ) → IsWalk tree s walk → IsWalk (remove tree number) s walk
