-- What a call answers of a whole leaf.
use Rattle.std.specs.Prelude.{◌≡◌, ◌==◌, ℕ, List, Option, Some, None, map, if◌then◌else◌}
use Rattle.isp_format.specs.Leaf.{Stored}
use Rattle.isp_levels.specs.Inners.{number_of}
use Rattle.isp_clustered.specs.Cells.{kept_of}
use Rattle.isp_clustered.specs.Trees.{Tree, leaf_after, page_in}
use Rattle.isp_levels.specs.Levels.{TreeLeaf}
use Rattle.isp_clustered.specs.declared.kept.KeptRow.{KeptRow}
use Rattle.isp_clustered.specs.declared.kept.Leaf.{Leaf}

abbrev pub kept_row_of : Stored → KeptRow
kept_row_of s = record { key = s.key; kept = kept_of s }

abbrev pub kept_rows_of : List Stored → List KeptRow
kept_rows_of rows = map kept_row_of rows

-- the page that a header's link leads to: 0 is none
abbrev pub link_of : ℕ → Option ℕ
link_of page = if page == 0 then None else Some page

-- the answer has these rows, and this link to the right
pub record IsWhole (next : ℕ) (rows : List Stored) (answer : Leaf) : Type 0 where
  pub rows_are : answer.rows ≡ kept_rows_of rows
  pub next_is : number_of answer.next ≡ link_of next

-- the answer is that leaf of the tree: its page, all its rows, and the page of the leaf to its right
pub record IsLeafOf (tree : Tree) (leaf : TreeLeaf) (answer : Leaf) : Type 0 where
  pub page : answer.page.0 ≡ leaf.page
  pub rows : answer.rows ≡ kept_rows_of leaf.rows
  pub next : number_of answer.next ≡ page_in (leaf_after tree (Some leaf.page))
