-- The laws of searches over a tree that changes between their visits (Kornacker, Mohan and Hellerstein 1997): nothing that a
-- search could find gets out of its reach, what it has visited stays known, so with nothing left to visit it has found all,
-- and its visits end.
use Rattle.std.specs.Prelude.{◌≡◌, ◌⊎◌, ℕ, zero, suc, ℤ, ◌<◌, ◌≤◌, ◌==◌, true, false, not, Some, List, [], ◌∷◌, ◌++◌, length, filter, reverse}
use Rattle.isp_mbr.specs.Corners.{Corners}
use Rattle.isp_mbr.specs.Boxes.{IsBox}
use Rattle.isp_mbr.specs.Predicates.{satisfies}
use Rattle.isp_mbr.specs.declared.predicate.Predicate.{Predicate}
use Rattle.isp_forest.specs.declared.entry.Entry.{Entry}
use Rattle.isp_forest.specs.declared.entry.To.TheVariants.{Row}
use Rattle.isp_base.specs.Lists.{Has, times}
use Rattle.isp_forest.specs.Tree.{Node, Tree, page_at, numbers}
use Rattle.isp_forest.specs.Forest.{Forest}
use Rattle.isp_forest.specs.Walk.{EndsAfter, LinkedForest}
use Rattle.isp_forest.specs.Steps.{is_among, add, raise, split, remove}
use Rattle.isp_forest.specs.Place.{Stands, IsFree, CanSplit, CanRelieve, Division, place}
use Rattle.isp_forest.specs.Search.{Search, Item, IsOwn, Covered, Known}
use Rattle.isp_forest.specs.Attach.{let_in, copied_at_raise, copied_at_split, copied_up, copied_to_raised, copied_to_parts, attached, is_tested}
use Rattle.isp_forest.specs.Visit.{begun, visit}

-- ---- nothing gets out of reach

abbrev pub BeginningCovers : Type 0
BeginningCovers =
    (tree : Tree) (session statement : ℕ) (predicate : Predicate) → Forest tree → Covered tree (begun tree session statement predicate)

abbrev pub VisitKeepsCovered : Type 0
VisitKeepsCovered =
    (tree : Tree) (x : Search) (rest : List (ℕ × ℕ)) (p s : ℕ)
    → Forest tree → x.stack ≡ rest ++ (p, s) ∷ [] → Covered tree x → Covered tree (visit tree rest p s x)

abbrev pub AddKeepsCovered : Type 0
AddKeepsCovered =
    (tree : Tree) (path : List ℕ) (box : Corners) (key : ℤ) (number : ℕ) (x : Search)
    → Forest tree → Stands tree path → Covered tree x → Covered (add tree path box key number) (let_in tree path box x)

abbrev pub RaiseKeepsCovered : Type 0
RaiseKeepsCovered =
    (tree : Tree) (q : ℕ) (x : Search)
    → Forest tree → IsFree tree q → Covered tree x → Covered (raise tree q) (copied_at_raise tree q x)

abbrev pub SplitKeepsCovered : Type 0
SplitKeepsCovered =
    (tree : Tree) (o above : ℕ) (left right : List Entry) (n : ℕ) (x : Search)
    → Forest tree → CanSplit tree o above left right n → Covered tree x → Covered (split tree o above left right n) (copied_at_split o right n x)

abbrev pub RemoveKeepsCovered : Type 0
RemoveKeepsCovered = (tree : Tree) (number : ℕ) (x : Search) → Covered tree x → Covered (remove tree number) x

abbrev pub PlaceKeepsCovered : Type 0
PlaceKeepsCovered =
    (tree : Tree) (path : List ℕ) (box : Corners) (key : ℤ) (number q : ℕ) (divisions : List Division) (x : Search)
    → Forest tree → Stands tree path → IsBox box → CanRelieve (add tree path box key number) q (reverse path) divisions → Covered tree x
    → Covered (place tree path box key number q divisions) (attached tree path box key number q divisions x)

-- y is x with the pages that it is on and the keys that it found in any order, and any number of times
pub record IsLike (x y : Search) : Type 0 where
  pub session : x.session ≡ y.session
  pub statement : x.statement ≡ y.statement
  pub predicate : x.predicate ≡ y.predicate
  pub stack : x.stack ≡ y.stack
  pub on : (p : ℕ) → Has x.on p → Has y.on p
  pub on_back : (p : ℕ) → Has y.on p → Has x.on p
  pub found : (k : ℤ) → Has x.found k → Has y.found k
  pub found_back : (k : ℤ) → Has y.found k → Has x.found k

abbrev pub OrderLeavesCovered : Type 0
OrderLeavesCovered = (tree : Tree) (x y : Search) → IsLike x y → Covered tree x → Covered tree y

-- a search may be copied to the page of the raised root first
abbrev pub RaiseMayComeFirst : Type 0
RaiseMayComeFirst =
    (tree : Tree) (q : ℕ) (up : List ℕ) (divisions : List Division) (x : Search) → Forest tree → CanRelieve tree q up divisions
    → IsLike (copied_up tree q up divisions x) (copied_to_parts q up divisions (copied_to_raised tree q up divisions x))

-- ---- what was visited stays known

-- a session's statement may place an entry with that box on the last page of the path, as far as the search goes: if it is
-- another session's, the box doesn't satisfy its predicate where it is tested; if it is its own, it is of no later statement
pub record MayPlace (tree : Tree) (path : List ℕ) (box : Corners) (session statement : ℕ) (x : Search) : Type 0 where
  pub others : (x.session == session) ≡ false → is_tested tree path box x ≡ true → satisfies x.predicate box ≡ false
  pub own : x.session ≡ session → x.statement ≤ statement

abbrev pub item : ℕ → ℕ → ℤ → ℕ → Item
item session statement key number = record { session = session; statement = statement; key = key; number = number }

abbrev pub BeginningKnows : Type 0
BeginningKnows =
    (tree : Tree) (items : List Item) (session statement : ℕ) (predicate : Predicate) → Known tree (begun tree session statement predicate) items

abbrev pub VisitKeepsKnown : Type 0
VisitKeepsKnown =
    (tree : Tree) (x : Search) (items : List Item) (rest : List (ℕ × ℕ)) (p s : ℕ) → Known tree x items → Known tree (visit tree rest p s x) items

abbrev pub AddKeepsKnown : Type 0
AddKeepsKnown =
    (tree : Tree) (path : List ℕ) (box : Corners) (key : ℤ) (number : ℕ) (x : Search) (items : List Item) (session statement : ℕ)
    → Forest tree → Stands tree path → MayPlace tree path box session statement x → Known tree x items
    → Known (add tree path box key number) (let_in tree path box x) (items ++ item session statement key number ∷ [])

abbrev pub RaiseKeepsKnown : Type 0
RaiseKeepsKnown =
    (tree : Tree) (q : ℕ) (x : Search) (items : List Item)
    → Forest tree → IsFree tree q → Covered tree x → Known tree x items → Known (raise tree q) (copied_at_raise tree q x) items

abbrev pub SplitKeepsKnown : Type 0
SplitKeepsKnown =
    (tree : Tree) (o above : ℕ) (left right : List Entry) (n : ℕ) (x : Search) (items : List Item)
    → Forest tree → CanSplit tree o above left right n → Covered tree x → Known tree x items
    → Known (split tree o above left right n) (copied_at_split o right n x) items

abbrev pub RemoveKeepsKnown : Type 0
RemoveKeepsKnown = (tree : Tree) (number : ℕ) (x : Search) (items : List Item) → Known tree x items → Known (remove tree number) x items

abbrev pub PlaceKeepsKnown : Type 0
PlaceKeepsKnown =
    (tree : Tree) (path : List ℕ) (box : Corners) (key : ℤ) (number q : ℕ) (divisions : List Division) (x : Search) (items : List Item) (session statement : ℕ)
    → Forest tree → Stands tree path → IsBox box → CanRelieve (add tree path box key number) q (reverse path) divisions
    → MayPlace tree path box session statement x → Covered tree x → Known tree x items
    → Known (place tree path box key number q divisions) (attached tree path box key number q divisions x) (items ++ item session statement key number ∷ [])

-- what other sessions placed may be forgotten, as it is at their end
abbrev pub ForgettingKeepsKnown : Type 0
ForgettingKeepsKnown =
    (tree : Tree) (x : Search) (items left : List Item)
    → ((i : Item) → Has items i → i.session ≡ x.session → Has left i) → Known tree x items → Known tree x left

abbrev pub OrderLeavesKnown : Type 0
OrderLeavesKnown = (tree : Tree) (x y : Search) (items : List Item) → IsLike x y → Known tree x items → Known tree y items

-- ---- nothing is missed

-- the entry lies on a leaf of the tree, as the row's of that key and with that number
pub record IsOnLeaf (tree : Tree) (e : Entry) (key : ℤ) (number : ℕ) : Type 0 where
  pub p : ℕ
  pub leaf : Node
  pub there : page_at tree p ≡ Some leaf
  pub level : leaf.level ≡ 0
  pub has : Has leaf.entries e
  pub to : e.to ≡ Row key number

-- a search that has nothing left to visit has found the key of each entry on a leaf whose box satisfies its predicate, but
-- for what its own session placed in the search's statement or a later one
abbrev pub FoundAll : Type 0
FoundAll =
    (tree : Tree) (x : Search) (items : List Item) → Forest tree → Covered tree x → Known tree x items → x.stack ≡ []
    → (e : Entry) (key : ℤ) (number : ℕ) → IsOnLeaf tree e key number → satisfies x.predicate e.b ≡ true → Has x.found key ⊎ IsOwn x items key number

-- ---- visits end

-- one visit leads from x to y
pub record IsVisit (tree : Tree) (x y : Search) : Type 0 where
  pub rest : List (ℕ × ℕ)
  pub p : ℕ
  pub s : ℕ
  pub stack : x.stack ≡ rest ++ (p, s) ∷ []
  pub is : visit tree rest p s x ≡ y

-- n visits, one after another, lead from x to y
abbrev pub Visits : Tree → ℕ → Search → Search → Type 0
Visits tree zero x y = x ≡ y
Visits tree (suc n) x y = (z : Search) × IsVisit tree x z × Visits tree n z y

-- how many pages of the tree the search isn't on
abbrev pub away : Tree → Search → ℕ
away tree x = length (filter (λ q. not (is_among x.on q)) (numbers tree.pages))

-- so many right links are behind the page that the search remembers last
abbrev pub Behind : Tree → Search → ℕ → Type 0
Behind tree x n = (rest : List (ℕ × ℕ)) (p s : ℕ) → x.stack ≡ rest ++ (p, s) ∷ [] → EndsAfter tree n p

-- a visit comes to a page that is new to the search; or it comes to none, and the search remembers fewer pages, or as many
-- and has one right link less before it
abbrev pub ComesNearer : Tree → Search → Search → Type 0
ComesNearer tree x y =
    (away tree y < away tree x)
    ⊎ (away tree y ≡ away tree x) × ((length y.stack < length x.stack)
    ⊎ (length y.stack ≡ length x.stack) × ((n : ℕ) → Behind tree x n → (m : ℕ) × (n ≡ suc m) × Behind tree y m))

abbrev pub VisitComesNearer : Type 0
VisitComesNearer = (tree : Tree) (x y : Search) → LinkedForest tree → Covered tree x → IsVisit tree x y → ComesNearer tree x y

-- where nothing is placed between them, the visits of a search are no more than some number
abbrev pub VisitsEnd : Type 0
VisitsEnd = (tree : Tree) (x : Search) → LinkedForest tree → Covered tree x → (most : ℕ) × ((n : ℕ) (y : Search) → Visits tree n x y → n ≤ most)

-- over a tree that stays, a search that begins now visits no page twice, so it makes at most as many visits as the tree has pages:
-- after n visits it is on n pages, each once, and the next visit is of one that it isn't on
pub record VisitedOnce (tree : Tree) (n : ℕ) (x : Search) : Type 0 where
  pub bound : n ≤ length tree.pages
  pub many : length x.on ≡ n
  pub once : (p : ℕ) → times p x.on ≤ 1
  pub next : (y : Search) (v : IsVisit tree x y) → is_among x.on v.p ≡ false

abbrev pub VisitsOnce : Type 0
VisitsOnce =
    (tree : Tree) (session statement : ℕ) (predicate : Predicate) (n : ℕ) (x : Search)
    → Forest tree → Visits tree n (begun tree session statement predicate) x → VisitedOnce tree n x
