-- A clustered tree: its leaves in the order of their keys, and the pages above them.
use Rattle.std.specs.Prelude.{◌≡◌, ℕ, ◌==◌, ℤ, Bool, List, [], ◌∷◌, ◌++◌, Option, Some, None, map, if◌then◌else◌}
use Rattle.std.specs.List.{flat_map}
use Rattle.isp_format.specs.Leaf.{Stored}
use Rattle.isp_format.specs.Ranges.{Contents}
use Rattle.isp_page.specs.State.{is_among}
use Rattle.isp_page.specs.Touched.{KeepsPages}
use Rattle.isp_cells.specs.Rows.{can_drop, can_rewrite, has_key}
use Rattle.isp_levels.specs.Levels.{InnerNode, IsTreeOf, level_pages}
pub use Rattle.isp_levels.specs.Levels.{TreeLeaf, least_key}
pub use Rattle.isp_levels.specs.Dividing.{on_leaf}

pub record Tree : Type 0 where
  -- from left to right
  pub leaves : List TreeLeaf
  -- the pages above the leaves
  pub inner : List ℕ

-- all rows, in the order of their keys
abbrev pub rows_of : Tree → List Stored
rows_of tree = flat_map (λ leaf. leaf.rows) tree.leaves

abbrev pub pages_of : Tree → List ℕ
pages_of tree = map (λ leaf. leaf.page) tree.leaves ++ tree.inner

-- the tree that is this leaf
abbrev pub one_leaf : ℕ → List Stored → Tree
one_leaf page rows = record { leaves = record { page = page; low = least_key; rows = rows } ∷ []; inner = [] }

-- In the contents of a file of so many pages this is the tree of that table on that page: levels lead down to its leaves, and
-- their pages are those above the leaves.
pub record IsTree (pages : ℕ) (contents : Contents) (table root : ℕ) (tree : Tree) : Type 0 where
  pub levels : List (List InnerNode)
  pub levelled : IsTreeOf pages contents table root levels tree.leaves
  pub inner_is : tree.inner ≡ level_pages levels

-- the tree with this made of the rows of each leaf
abbrev pub on_leaves : (List Stored → List Stored) → Tree → Tree
on_leaves change tree = record { leaves = map (on_leaf change) tree.leaves; inner = tree.inner }

-- The contents now have the tree that this makes of the rows of that one, and other pages than its own are as before.
pub record IsEdited (pages : ℕ) (old new : Contents) (table root : ℕ) (tree : Tree) (change : List Stored → List Stored) : Type 0 where
  pub is_tree : IsTree pages new table root (on_leaves change tree)
  pub others : KeepsPages (λ page. is_among page (pages_of tree)) old new

-- the tree has a row of that key; one whose slot holds so many bytes; one that is marked
abbrev pub has : ℤ → Tree → Bool
has key tree = has_key key (rows_of tree)

abbrev pub holds : ℤ → ℕ → Tree → Bool
holds key size tree = can_rewrite key size (rows_of tree)

abbrev pub has_marked : ℤ → Tree → Bool
has_marked key tree = can_drop key (rows_of tree)

-- the first of these leaves; the one behind a page
abbrev pub first_leaf : List TreeLeaf → Option TreeLeaf
first_leaf [] = None
first_leaf (leaf ∷ leaves) = Some leaf

abbrev pub leaf_behind : List TreeLeaf → ℕ → Option TreeLeaf
leaf_behind [] page = None
leaf_behind (leaf ∷ leaves) page = if leaf.page == page then first_leaf leaves else leaf_behind leaves page

-- the leaf to the right of a page; the first one, where none is named
abbrev pub leaf_after : Tree → Option ℕ → Option TreeLeaf
leaf_after tree None = first_leaf tree.leaves
leaf_after tree (Some page) = leaf_behind tree.leaves page

-- the page of a leaf
abbrev pub page_in : Option TreeLeaf → Option ℕ
page_in None = None
page_in (Some leaf) = Some leaf.page
