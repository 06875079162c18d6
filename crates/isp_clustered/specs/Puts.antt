-- What a row that is put makes of a tree, of the space, and of the contents: the leaf that has the key's place is edited, or
-- divided in two (B-trees of Bayer and McCreight 1972, with the rows on the leaves), and the pages for it are free ones.
use Rattle.std.specs.Prelude.{◌≡◌, ℕ, ◌+◌, ◌<◌, ◌≤◌, ◌||◌, ℤ, true, List, ◌∷◌, ◌++◌, All, Option, length}
use Rattle.isp_base.specs.Lists.{times}
use Rattle.isp_format.specs.Leaf.{stored_head}
use Rattle.isp_format.specs.Ranges.{Contents}
use Rattle.isp_format.specs.Rules.{space_number}
use Rattle.isp_page.specs.State.{is_among}
use Rattle.isp_page.specs.Touched.{KeepsPages, is_page}
use Rattle.isp_space.specs.Spaces.{IsSpace, Space, free_pages, most_counted, space_pages}
use Rattle.isp_cells.specs.Rows.{may_put, with_put}
use Rattle.isp_clustered.specs.Trees.{IsTree, Tree, pages_of, rows_of}
use Rattle.isp_levels.specs.Dividing.{with_row_put}
use Rattle.isp_levels.specs.Levels.{TreeLeaf}
pub use Rattle.isp_halving.specs.Calls.{IsApart}
pub use Rattle.isp_growing.specs.Taking.{moved_leaves, taken_times, takes}

-- The second tree has this row at that key, unmarked and in a slot of its length, and otherwise the rows of the first. All leaves
-- stand but the one that has the key's place: it is edited, or divided, with the right part on a page directly behind it. A lone
-- leaf that is divided moved before.
pub record PutIn (key : ℤ) (row : List ℕ) (before after : Tree) : Type 0 where
  pub rows : rows_of after ≡ with_put key row (rows_of before)
  pub moved : Option ℕ
  pub left : List TreeLeaf
  pub mid : TreeLeaf
  pub right : List TreeLeaf
  pub stood : moved_leaves moved before.leaves ≡ left ++ (mid ∷ right)
  pub page : ℕ
  pub stand : after.leaves ≡ left ++ (with_row_put key row page mid ++ right)

-- the tree and the space have no page in common and none twice, and the tree's pages were used before
pub record IsBeside (tree : Tree) (s : Space) : Type 0 where
  pub once : (page : ℕ) → times page (pages_of tree ++ space_pages s) ≤ 1
  pub used : All (λ page. page < s.fresh) (pages_of tree)

-- how many pages a put may change at most, and how many have to be free for it
abbrev pub most_put : ℕ
most_put = 36

-- A row of so many bytes may be put at that key: it isn't there, or its slot is smaller.
pub record CanPut (pages : ℕ) (contents : Contents) (table root : ℕ) (key : ℤ) (size : ℕ) (tree : Tree) (s : Space) : Type 0 where
  pub is_tree : IsTree pages contents table root tree
  pub is_space : IsSpace pages contents s
  pub beside : IsBeside tree s
  pub may : may_put key size (rows_of tree) ≡ true
  pub free : most_put ≤ free_pages pages s
  pub counted : s.bytes < most_counted

-- The contents now have that tree with the row put. The pages that are taken for it are free ones, each taken once and now the
-- tree's; page 0 counts the row's bytes; and other pages than page 0 and the tree's are as before.
pub record IsPut (pages : ℕ) (old new : Contents) (table root : ℕ) (key : ℤ) (row : List ℕ) (before : Tree) (s : Space) : Type 0 where
  pub after : Tree
  pub put : PutIn key row before after
  pub is_tree : IsTree pages new table root after
  pub count : ℕ
  pub few : count ≤ most_put
  pub pages_are : (page : ℕ) → times page (pages_of after) ≡ times page (pages_of before) + times page (takes count s)
  pub is_space : IsSpace pages new (let t = taken_times count s in record t { bytes = s.bytes + (stored_head + length row) })
  pub others : KeepsPages (λ page. is_page space_number page || is_among page (pages_of after)) old new
