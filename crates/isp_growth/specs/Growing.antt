-- A tree by the levels above a place, the lowest first, and those below it, the highest first; and a tree while a division is on
-- its way up, when the levels above lack one entry.
use Rattle.std.specs.Prelude.{◌≡◌, ℕ, suc, ◌+◌, ◌<◌, ◌≤◌, ℤ, false, int_lt, List, [], ◌∷◌, ◌++◌, length}
use Rattle.isp_base.specs.Lists.{times}
use Rattle.isp_format.specs.Empty.{first_fresh}
use Rattle.isp_format.specs.Inner.{Name}
use Rattle.isp_format.specs.Ranges.{Contents}
use Rattle.isp_space.specs.Spaces.{IsSpace, Space, space_pages}
use Rattle.isp_levels.specs.Levels.{AllForked, ForkedBelow, InnerNode, IsUnder, Lead, LeavesStand, LevelStands, LevelsBegin, LevelsForked, LevelsStand, Ranged, TreeLeaf, entries_of, leaf_names, leaf_pages, least_key, level_pages, most_levels, names_of}

-- the levels lead up from these keys and pages to the root
abbrev pub Linked : ℕ → List (List InnerNode) → List Name → Type 0
Linked root [] names = names ≡ (least_key, root) ∷ []
Linked root (level ∷ up) names = (entries_of level ≡ names) × Linked root up (names_of level)

-- all levels, from the root down
abbrev pub downs : List (List InnerNode) → List (List InnerNode) → List (List InnerNode)
downs [] below = below
downs (level ∷ up) below = downs up (level ∷ below)

-- and the other way round
abbrev pub ups : List (List InnerNode) → List (List InnerNode) → List (List InnerNode)
ups [] acc = acc
ups (level ∷ levels) acc = ups levels (level ∷ acc)

-- these are levels from so far above the leaves upward
abbrev pub UpsStand : Contents → ℕ → ℕ → List (List InnerNode) → Type 0
UpsStand contents table height [] = Unit {0}
UpsStand contents table height (level ∷ up) = LevelStands contents table height level × UpsStand contents table (suc height) up

-- each page of a level but the root's has two entries at least
abbrev pub UpForked : List (List InnerNode) → Type 0
UpForked [] = Unit {0}
UpForked (level ∷ []) = Unit {0}
UpForked (level ∷ next ∷ up) = AllForked level × UpForked (next ∷ up)

abbrev pub Forked : List (List InnerNode) → List (List InnerNode) → Type 0
Forked [] below = ForkedBelow below
Forked (level ∷ up) below = UpForked (level ∷ up) × LevelsForked below

abbrev pub grown_pages : List (List InnerNode) → List (List InnerNode) → List TreeLeaf → List ℕ
grown_pages up below leaves = leaf_pages leaves ++ (level_pages below ++ level_pages up)

-- what the pages of a tree are, whatever their entries lead to
pub record Parts (pages : ℕ) (contents : Contents) (table : ℕ) (up below : List (List InnerNode)) (leaves : List TreeLeaf) : Type 0 where
  pub begin_up : LevelsBegin up
  pub begin_below : LevelsBegin below
  pub forked : Forked up below
  pub ranged : Ranged leaves
  pub above : UpsStand contents table (suc (length below)) up
  pub inner : LevelsStand contents table below
  pub stand : LeavesStand contents table leaves
  pub inside : (page : ℕ) → 1 ≤ times page (grown_pages up below leaves) → (first_fresh ≤ page) × (page < pages)
  pub once : (page : ℕ) → times page (grown_pages up below leaves) ≤ 1
  pub most : length up + length below ≤ most_levels

-- all levels lead down to the leaves
pub record IsWhole (pages : ℕ) (contents : Contents) (table root : ℕ) (up below : List (List InnerNode)) (leaves : List TreeLeaf) : Type 0 where
  pub seam : List Name
  pub upper : Linked root up seam
  pub lower : Lead seam below (leaf_names leaves)
  pub parts : Parts pages contents table up below leaves

-- the levels above lead to all names but the new one, which goes directly behind the old one, where the key goes
pub record IsLacking (pages : ℕ) (contents : Contents) (table root : ℕ) (key : ℤ) (up below : List (List InnerNode)) (leaves : List TreeLeaf) (old new : Name) : Type 0 where
  pub before : List Name
  pub after : List Name
  pub upper : Linked root up (before ++ (old ∷ after))
  pub lower : Lead (before ++ (old ∷ new ∷ after)) below (leaf_names leaves)
  pub near : int_lt key old.0 ≡ false
  pub under : IsUnder key after
  pub parts : Parts pages contents table up below leaves

-- the space of the file lies beside a tree of these pages: no page stands twice in both, and those of the tree were used before
pub record IsSpaceBeside (pages : ℕ) (contents : Contents) (all : List ℕ) (s : Space) : Type 0 where
  pub is_space : IsSpace pages contents s
  pub once : (page : ℕ) → times page all + times page (space_pages s) ≤ 1
  pub used : (page : ℕ) → 1 ≤ times page all → page < s.fresh
