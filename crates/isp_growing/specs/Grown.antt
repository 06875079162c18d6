-- What a row that is put into a leaf without room makes of a tree, of the space beside it, and of the contents: the leaf is
-- divided in two, and so are pages above it as far as they have no room for one more entry (B-trees of Bayer and McCreight 1972).
use Rattle.std.specs.Prelude.{◌≡◌, ℕ, ◌+◌, ◌≤◌, ◌||◌, ℤ, true, List, ◌∷◌, ◌++◌, Option, Some}
use Rattle.isp_base.specs.Lists.{times}
use Rattle.isp_cells.specs.Rows.{with_put}
use Rattle.isp_format.specs.Ranges.{Contents}
use Rattle.isp_format.specs.Rules.{space_number}
use Rattle.isp_growth.specs.Growing.{IsSpaceBeside}
use Rattle.isp_levels.specs.Dividing.{is_divided, with_row_put}
use Rattle.isp_levels.specs.Levels.{InnerNode, IsTreeOf, TreeLeaf, all_rows, pick_leaf, tree_pages}
use Rattle.isp_page.specs.State.{is_among}
use Rattle.isp_page.specs.Touched.{KeepsPages, is_page}
use Rattle.isp_space.specs.Spaces.{IsSpace, Space, free_pages}
use Rattle.isp_growing.specs.Taking.{moved_leaves, taken_times, takes}

-- how many pages a row changes at most where its leaf is divided, and how many have to be free for it
abbrev pub most_grown : ℕ
most_grown = 35

-- The row has no room on the leaf that its key goes to, and the file has enough free pages.
pub record CanGrow (pages : ℕ) (contents : Contents) (table root : ℕ) (key : ℤ) (row : List ℕ) (levels : List (List InnerNode)) (leaves : List TreeLeaf) (s : Space) (leaf : TreeLeaf) : Type 0 where
  pub is_tree : IsTreeOf pages contents table root levels leaves
  pub beside : IsSpaceBeside pages contents (tree_pages levels leaves) s
  pub free : most_grown ≤ free_pages pages s
  pub picked : pick_leaf key leaves ≡ Some leaf
  pub large : is_divided (with_put key row leaf.rows) ≡ true

-- The contents now have these levels and leaves as that tree, with the row put among all rows. All leaves stand but the one that
-- has the key's place, which is divided, with the right part on a page directly behind it; a lone leaf that is divided moved
-- before. The pages that are taken for it are free ones, each taken once and now the tree's; and other pages than page 0 and the
-- tree's are as before.
pub record IsGrown (pages : ℕ) (old new : Contents) (table root : ℕ) (key : ℤ) (row : List ℕ) (levels : List (List InnerNode)) (leaves : List TreeLeaf) (s : Space) : Type 0 where
  pub levels_now : List (List InnerNode)
  pub leaves_now : List TreeLeaf
  pub is_tree : IsTreeOf pages new table root levels_now leaves_now
  pub rows : all_rows leaves_now ≡ with_put key row (all_rows leaves)
  pub moved : Option ℕ
  pub left : List TreeLeaf
  pub mid : TreeLeaf
  pub right : List TreeLeaf
  pub stood : moved_leaves moved leaves ≡ left ++ (mid ∷ right)
  pub page : ℕ
  pub stand : leaves_now ≡ left ++ (with_row_put key row page mid ++ right)
  pub count : ℕ
  pub few : count ≤ most_grown
  pub pages_are : (q : ℕ) → times q (tree_pages levels_now leaves_now) ≡ times q (tree_pages levels leaves) + times q (takes count s)
  pub is_space : IsSpace pages new (taken_times count s)
  pub others : KeepsPages (λ q. is_page space_number q || is_among q (tree_pages levels_now leaves_now)) old new
