-- The leaf of a key, as it is read.
use Rattle.std.specs.Prelude.{◌≡◌, ℕ, ◌+◌, ℤ, List, Some, length}
use Rattle.std.specs.List.{flat_map}
use Rattle.isp_format.specs.Kinds.{content_place}
use Rattle.isp_format.specs.Leaf.{stored_bytes}
use Rattle.isp_cells.specs.LeafPages.{IsLeaf}
use Rattle.isp_levels.specs.Edits.{IsAt}
use Rattle.isp_levels.specs.Levels.{TreeLeaf, first_page, pick_leaf}
use Rattle.isp_clustered.specs.Trees.{Tree}

-- These bytes, of that page, are the leaf that the key goes to, and there its rows end.
pub record IsFoundLeaf (bytes : List ℕ) (page used table : ℕ) (key : ℤ) (tree : Tree) : Type 0 where
  pub leaf : TreeLeaf
  pub picked : pick_leaf key tree.leaves ≡ Some leaf
  pub at : IsAt key tree.leaves leaf
  pub page_is : leaf.page ≡ page
  pub stands : IsLeaf bytes table page (first_page at.after) leaf.rows
  pub used_is : used ≡ content_place + length (flat_map stored_bytes leaf.rows)
