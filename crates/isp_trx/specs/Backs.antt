-- How the newest old row of a slot is taken back: it is put back on the tree of its table, and noted no more.
use Rattle.std.specs.Prelude.{◌≡◌, ℕ, suc, pred, ◌==◌, Bool, List, length, slice_get, Some, if◌then◌else◌}
use Rattle.isp_format.specs.Leaf.{Stored}
use Rattle.isp_format.specs.Ranges.{Contents}
use Rattle.isp_format.specs.Undo.{OldImage, absent_kind, marked_kind}
use Rattle.isp_clustered.specs.Rows.{marked_at, with_row}
use Rattle.isp_clustered.specs.Trees.{IsEdited, IsTree, Tree, has, holds}
use Rattle.isp_undo.specs.Chains.{Chain, newest_of}
use Rattle.isp_image.specs.Databases.{Database, FileTable}
use Rattle.isp_chained.specs.Chained.{ChainedFile}
use Rattle.isp_chained.specs.Steps.{AreDisjoint}
use Rattle.isp_trx.specs.Writes.{CanUndo, Undid}

-- the rows of a tree with the row of its key as it stood, or marked where none stood
abbrev pub put_in : OldImage → List Stored → List Stored
put_in image = if image.kind == absent_kind then marked_at image.key else with_row image.key image.row (image.kind == marked_kind)

-- the tree has a row of that key, with a slot that holds it
abbrev pub fits_in : OldImage → Tree → Bool
fits_in image tree = if image.kind == absent_kind then has image.key tree else holds image.key (length image.row) tree

-- the contents have a tree on that page into which it was put back
pub record PutsBack (pages : ℕ) (old : Contents) (root : ℕ) (image : OldImage) (new : Contents) : Type 0 where
  pub makes : (table : ℕ) (tree : Tree) → IsTree pages old table root tree → IsEdited pages old new table root tree (put_in image)

-- the contents are this database with these chains, of which the slot's is this one; its newest old row is this one, and the tree of
-- its table has that root; no two slots have old rows of one key
pub record CanTake (pages : ℕ) (contents : Contents) (chains : List Chain) (slot : ℕ) (chain : Chain) (image : OldImage) (root : ℕ) (d : Database) : Type 0 where
  pub kept : ChainedFile pages contents d chains
  pub own : slice_get chains slot ≡ Some chain
  pub disjoint : AreDisjoint chains
  pub newest : newest_of chain ≡ Some image
  pub root_is : (t : FileTable) → slice_get d.tables (pred image.table) ≡ Some t → t.def.root.0 ≡ root

-- what that makes of contents, on the tree of that root
pub record Takes (pages : ℕ) (old : Contents) (slot : ℕ) (image : OldImage) (root : ℕ) (new : Contents) : Type 0 where
  pub makes : (chains : List Chain) (chain : Chain) (d : Database) → CanTake pages old chains slot chain image root d → Undid pages new chains slot chain d

-- the same on the tree that its table has among these
pub record TakesAt (pages : ℕ) (old : Contents) (slot : ℕ) (image : OldImage) (roots : List ℕ) (new : Contents) : Type 0 where
  pub makes : (chains : List Chain) (chain : Chain) (count : ℕ) (d : Database) → CanUndo pages old chains slot chain (suc count) roots d → newest_of chain ≡ Some image → Undid pages new chains slot chain d
