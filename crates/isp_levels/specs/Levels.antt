-- A clustered tree as its levels, from the root down, each a list of pages from left to right. The entries of a level, one page
-- after another, are the keys and pages of the level below (Bayer and McCreight 1972, with the rows on the leaves).
use Rattle.std.specs.Prelude.{◌≡◌, ℕ, zero, suc, ◌<◌, ◌≤◌, ◌^◌, ℤ, true, false, int_le, int_lt, List, [], ◌∷◌, ◌++◌, Option, Some, None, length, map, if◌then◌else◌}
use Rattle.std.specs.Int.{cast_signed, w64}
use Rattle.std.specs.List.{flat_map}
use Rattle.isp_base.specs.Lists.{times}
use Rattle.isp_format.specs.Empty.{first_fresh}
use Rattle.isp_format.specs.Inner.{IsInnerPage, Name}
use Rattle.isp_format.specs.Leaf.{Stored}
use Rattle.isp_format.specs.Ranges.{Contents, page_of}
use Rattle.isp_cells.specs.Rows.{Rises, find}
use Rattle.isp_cells.specs.LeafPages.{IsLeaf}

-- a leaf
pub record TreeLeaf : Type 0 where
  pub page : ℕ
  -- the key from which on it has keys
  pub low : ℤ
  pub rows : List Stored

-- the least key
unfoldable pub least_key : ℤ
least_key = cast_signed w64 (2 ^ 63)

-- a page above the leaves: the key from which on it has keys, and its entries
pub record InnerNode : Type 0 where
  pub low : ℤ
  pub page : ℕ
  pub names : List Name

-- the keys and pages of a level; its entries, one page after another; the keys and pages of the leaves
abbrev pub names_of : List InnerNode → List Name
names_of [] = []
names_of (node ∷ level) = (node.low, node.page) ∷ names_of level

abbrev pub entries_of : List InnerNode → List Name
entries_of [] = []
entries_of (node ∷ level) = node.names ++ entries_of level

abbrev pub leaf_names : List TreeLeaf → List Name
leaf_names [] = []
leaf_names (leaf ∷ leaves) = (leaf.low, leaf.page) ∷ leaf_names leaves

-- the levels lead from these keys and pages down to those
abbrev pub Lead : List Name → List (List InnerNode) → List Name → Type 0
Lead names [] below = names ≡ below
Lead names (level ∷ levels) below = (names_of level ≡ names) × Lead (entries_of level) levels below

-- what they lead to
abbrev pub led_to : List Name → List (List InnerNode) → List Name
led_to names [] = names
led_to names (level ∷ levels) = led_to (entries_of level) levels

-- ---- keys

-- the key is below those of all these pages; keys rise
abbrev pub IsUnder : ℤ → List Name → Type 0
IsUnder key [] = Unit {0}
IsUnder key (name ∷ names) = (int_lt key name.0 ≡ true) × IsUnder key names

abbrev pub NamesRise : List Name → Type 0
NamesRise [] = Unit {0}
NamesRise (name ∷ names) = IsUnder name.0 names × NamesRise names

-- the first entry of a page begins where the page does
abbrev pub BeginsAt : ℤ → List Name → Type 0
BeginsAt low [] = ⊥
BeginsAt low (name ∷ names) = name.0 ≡ low

abbrev pub AllBegin : List InnerNode → Type 0
AllBegin [] = Unit {0}
AllBegin (node ∷ level) = BeginsAt node.low node.names × AllBegin level

abbrev pub LevelsBegin : List (List InnerNode) → Type 0
LevelsBegin [] = Unit {0}
LevelsBegin (level ∷ levels) = AllBegin level × LevelsBegin levels

-- each page of a level has two entries at least; of all levels but the root's
abbrev pub AllForked : List InnerNode → Type 0
AllForked [] = Unit {0}
AllForked (node ∷ level) = (2 ≤ length node.names) × AllForked level

abbrev pub LevelsForked : List (List InnerNode) → Type 0
LevelsForked [] = Unit {0}
LevelsForked (level ∷ levels) = AllForked level × LevelsForked levels

abbrev pub ForkedBelow : List (List InnerNode) → Type 0
ForkedBelow [] = Unit {0}
ForkedBelow (top ∷ levels) = LevelsForked levels

-- all keys of these rows lie from there on; below there
abbrev pub LieFrom : ℤ → List Stored → Type 0
LieFrom low [] = Unit {0}
LieFrom low (s ∷ rows) = (int_lt s.key low ≡ false) × LieFrom low rows

abbrev pub LieBelow : ℤ → List Stored → Type 0
LieBelow high [] = Unit {0}
LieBelow high (s ∷ rows) = (int_lt s.key high ≡ true) × LieBelow high rows

-- a leaf begins, and its rows end, before all of these
abbrev pub LiesBefore : TreeLeaf → List TreeLeaf → Type 0
LiesBefore leaf [] = Unit {0}
LiesBefore leaf (other ∷ leaves) = (int_lt leaf.low other.low ≡ true) × LieBelow other.low leaf.rows × LiesBefore leaf leaves

-- the keys of each leaf rise, from where it begins on and below where the next one does
abbrev pub Ranged : List TreeLeaf → Type 0
Ranged [] = Unit {0}
Ranged (leaf ∷ leaves) = LieFrom leaf.low leaf.rows × Rises leaf.rows × LiesBefore leaf leaves × Ranged leaves

-- a tree on that page: its levels lead to its leaves
pub record IsLevelled (root : ℕ) (levels : List (List InnerNode)) (leaves : List TreeLeaf) : Type 0 where
  pub leads : Lead ((least_key, root) ∷ []) levels (leaf_names leaves)
  pub begin : LevelsBegin levels
  pub forked : ForkedBelow levels
  pub ranged : Ranged leaves

-- all rows, from the first leaf to the last
abbrev pub all_rows : List TreeLeaf → List Stored
all_rows leaves = flat_map (λ leaf. leaf.rows) leaves

-- ---- the way down

abbrev pub or_else : {X : Type 0} → Option X → Option X → Option X
or_else (Some x) other = Some x
or_else None other = other

-- the last one that begins at the key or before it: of entries, of the pages of a level, of leaves
abbrev pub pick : ℤ → List Name → Option Name
pick key [] = None
pick key (name ∷ names) = or_else (pick key names) (if int_le name.0 key then Some name else None)

abbrev pub pick_node : ℤ → List InnerNode → Option InnerNode
pick_node key [] = None
pick_node key (node ∷ level) = or_else (pick_node key level) (if int_le node.low key then Some node else None)

abbrev pub pick_leaf : ℤ → List TreeLeaf → Option TreeLeaf
pick_leaf key [] = None
pick_leaf key (leaf ∷ leaves) = or_else (pick_leaf key leaves) (if int_le leaf.low key then Some leaf else None)

-- the entry of a page that a key goes on by; the row of a key on a leaf
abbrev pub pick_in : ℤ → Option InnerNode → Option Name
pick_in key None = None
pick_in key (Some node) = pick key node.names

abbrev pub find_in : ℤ → Option TreeLeaf → Option Stored
find_in key None = None
find_in key (Some leaf) = find key leaf.rows

-- so many levels down, where that is what the entries of a page are
abbrev pub way : (ℕ → List Name) → ℤ → ℕ → Option Name → Option Name
way entries key zero at = at
way entries key (suc n) None = None
way entries key (suc n) (Some name) = way entries key n (pick key (entries name.1))

-- the pages of the levels have these entries
abbrev pub HaveEntries : (ℕ → List Name) → List InnerNode → Type 0
HaveEntries entries [] = Unit {0}
HaveEntries entries (node ∷ level) = (entries node.page ≡ node.names) × HaveEntries entries level

abbrev pub LevelsHave : (ℕ → List Name) → List (List InnerNode) → Type 0
LevelsHave entries [] = Unit {0}
LevelsHave entries (level ∷ levels) = HaveEntries entries level × LevelsHave entries levels

-- ---- a tree in the bytes of pages

-- these pages are a level so far above the leaves
abbrev pub LevelStands : Contents → ℕ → ℕ → List InnerNode → Type 0
LevelStands contents table height [] = Unit {0}
LevelStands contents table height (node ∷ level) = IsInnerPage (page_of contents node.page) table node.page height node.names × LevelStands contents table height level

abbrev pub LevelsStand : Contents → ℕ → List (List InnerNode) → Type 0
LevelsStand contents table [] = Unit {0}
LevelsStand contents table (level ∷ levels) = LevelStands contents table (suc (length levels)) level × LevelsStand contents table levels

-- the page of the first leaf, 0 where there is none
abbrev pub first_page : List TreeLeaf → ℕ
first_page [] = 0
first_page (leaf ∷ leaves) = leaf.page

-- these pages are leaves, each of which links to the next
abbrev pub LeavesStand : Contents → ℕ → List TreeLeaf → Type 0
LeavesStand contents table [] = Unit {0}
LeavesStand contents table (leaf ∷ leaves) = IsLeaf (page_of contents leaf.page) table leaf.page (first_page leaves) leaf.rows × LeavesStand contents table leaves

-- how high a root may stand
abbrev pub most_levels : ℕ
most_levels = 15

-- the pages of a level, of all levels, of leaves, and of a whole tree
abbrev pub node_pages : List InnerNode → List ℕ
node_pages [] = []
node_pages (node ∷ level) = node.page ∷ node_pages level

abbrev pub level_pages : List (List InnerNode) → List ℕ
level_pages [] = []
level_pages (level ∷ levels) = node_pages level ++ level_pages levels

abbrev pub leaf_pages : List TreeLeaf → List ℕ
leaf_pages leaves = map (λ leaf. leaf.page) leaves

abbrev pub tree_pages : List (List InnerNode) → List TreeLeaf → List ℕ
tree_pages levels leaves = leaf_pages leaves ++ level_pages levels

-- the pages are of a file of so many, and none of those that every file has
abbrev pub ArePages : ℕ → List ℕ → Type 0
ArePages pages [] = Unit {0}
ArePages pages (page ∷ rest) = (first_fresh ≤ page) × (page < pages) × ArePages pages rest

-- all pages that are named are of a file of so many
abbrev pub NamesInside : ℕ → List Name → Type 0
NamesInside pages [] = Unit {0}
NamesInside pages (name ∷ names) = (name.1 < pages) × NamesInside pages names

abbrev pub LevelsInside : ℕ → List (List InnerNode) → Type 0
LevelsInside pages [] = Unit {0}
LevelsInside pages (level ∷ levels) = NamesInside pages (entries_of level) × LevelsInside pages levels

-- in the contents of a file of so many pages the levels and leaves are the tree of that table on that page
pub record IsTreeOf (pages : ℕ) (contents : Contents) (table root : ℕ) (levels : List (List InnerNode)) (leaves : List TreeLeaf) : Type 0 where
  pub levelled : IsLevelled root levels leaves
  pub inner : LevelsStand contents table levels
  pub stand : LeavesStand contents table leaves
  pub inside : ArePages pages (tree_pages levels leaves)
  pub once : (page : ℕ) → times page (tree_pages levels leaves) ≤ 1
  pub most : length levels ≤ most_levels
