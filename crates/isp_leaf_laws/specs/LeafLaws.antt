-- Which entries lie on the leaves after a step: those that did before, and the added one, or without the removed one.
use Rattle.std.specs.Prelude.{◌≡◌, ◌⊎◌, ◌↔◌, ◌+◌, ℕ, ℤ, ◌==◌, false, cond, Option, Some, None, List, [], ◌∷◌, filter_map, flat_map, reverse}
use Rattle.isp_mbr.specs.Corners.{Corners}
use Rattle.isp_mbr.specs.Boxes.{IsBox}
use Rattle.isp_forest.specs.declared.entry.Entry.{Entry}
use Rattle.isp_forest.specs.declared.entry.To.{To}
use Rattle.isp_forest.specs.declared.entry.To.TheVariants.{Child, Row}
use Rattle.isp_base.specs.Lists.{times}
use Rattle.isp_forest.specs.Tree.{Tree}
use Rattle.isp_forest.specs.Forest.{Forest}
use Rattle.isp_forest.specs.Steps.{add, raise, split, remove}
use Rattle.isp_forest.specs.Place.{Stands, IsFree, CanSplit, CanRelieve, Division, place}
use Rattle.isp_searches.specs.SearchLaws.{IsOnLeaf}

-- ---- entry by entry

-- the entry is the one with that box, key and number
pub record IsAdded (box : Corners) (key : ℤ) (number : ℕ) (e : Entry) (k : ℤ) (n : ℕ) : Type 0 where
  pub entry : e ≡ record { b = box; to = Row key number }
  pub same_key : k ≡ key
  pub same_number : n ≡ number

-- an entry lies on a leaf exactly where it did before
abbrev pub SameOnLeaves : Tree → Tree → Type 0
SameOnLeaves tree after = (e : Entry) (k : ℤ) (n : ℕ) → IsOnLeaf after e k n ↔ IsOnLeaf tree e k n

-- or is the added one
abbrev pub OneMoreOnLeaves : Tree → Tree → Corners → ℤ → ℕ → Type 0
OneMoreOnLeaves tree after box key number =
    (e : Entry) (k : ℤ) (n : ℕ) → IsOnLeaf after e k n ↔ (IsOnLeaf tree e k n ⊎ IsAdded box key number e k n)

-- or did and has another number
abbrev pub OthersOnLeaves : Tree → Tree → ℕ → Type 0
OthersOnLeaves tree after number = (e : Entry) (k : ℤ) (n : ℕ) → IsOnLeaf after e k n ↔ (IsOnLeaf tree e k n × ((n == number) ≡ false))

-- ---- by their numbers

abbrev pub number_in : To → Option ℕ
number_in (Child p) = None
number_in (Row key number) = Some number

-- the numbers of these entries, in order
abbrev pub row_numbers : List Entry → List ℕ
row_numbers es = filter_map (λ e. number_in e.to) es

-- the numbers of the rows' entries on all pages
abbrev pub leaf_numbers : Tree → List ℕ
leaf_numbers tree = flat_map (λ p. row_numbers p.1.entries) tree.pages

-- the numbers of one tree's leaves are those of the other's, in another order
abbrev pub SameNumbers : Tree → Tree → Type 0
SameNumbers tree after = (n : ℕ) → times n (leaf_numbers after) ≡ times n (leaf_numbers tree)

-- with the new one
abbrev pub OneMoreNumber : Tree → Tree → ℕ → Type 0
OneMoreNumber tree after number = (n : ℕ) → times n (leaf_numbers after) ≡ times n (leaf_numbers tree) + times n (number ∷ [])

-- without the removed one
abbrev pub WithoutNumber : Tree → Tree → ℕ → Type 0
WithoutNumber tree after number = (n : ℕ) → times n (leaf_numbers after) ≡ cond (n == number) 0 (times n (leaf_numbers tree))

-- ---- the laws

abbrev pub AddOnLeaves : Type 0
AddOnLeaves =
    (tree : Tree) (path : List ℕ) (box : Corners) (key : ℤ) (number : ℕ) → Forest tree → Stands tree path
    → OneMoreOnLeaves tree (add tree path box key number) box key number × OneMoreNumber tree (add tree path box key number) number

abbrev pub RaiseOnLeaves : Type 0
RaiseOnLeaves = (tree : Tree) (q : ℕ) → Forest tree → IsFree tree q → SameOnLeaves tree (raise tree q) × SameNumbers tree (raise tree q)

abbrev pub SplitOnLeaves : Type 0
SplitOnLeaves =
    (tree : Tree) (o above : ℕ) (left right : List Entry) (n : ℕ) → Forest tree → CanSplit tree o above left right n
    → SameOnLeaves tree (split tree o above left right n) × SameNumbers tree (split tree o above left right n)

abbrev pub RemoveOnLeaves : Type 0
RemoveOnLeaves = (tree : Tree) (number : ℕ) → OthersOnLeaves tree (remove tree number) number × WithoutNumber tree (remove tree number) number

abbrev pub PlaceOnLeaves : Type 0
PlaceOnLeaves =
    (tree : Tree) (path : List ℕ) (box : Corners) (key : ℤ) (number q : ℕ) (divisions : List Division)
    → Forest tree → Stands tree path → IsBox box → CanRelieve (add tree path box key number) q (reverse path) divisions
    → OneMoreOnLeaves tree (place tree path box key number q divisions) box key number
    × OneMoreNumber tree (place tree path box key number q divisions) number
