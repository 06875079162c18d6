-- A row that is written, in two parts: what stands at its key is pushed onto the undo chain of a slot, and then the row is put into the
-- tree, or written into the slot of its key.
use Rattle.std.specs.Prelude.{◌≡◌, ℕ, Bool, true, false, nat_lt, List, length, Option, Some, None}
use Rattle.isp_clustered.specs.Puts.{CanPut, IsPut}
use Rattle.isp_clustered.specs.Rows.{with_row}
use Rattle.isp_clustered.specs.Trees.{IsEdited, IsTree, Tree, holds}
use Rattle.isp_clustered.specs.declared.kept.Kept.{Kept}
use Rattle.isp_format.specs.Ranges.{Contents}
use Rattle.isp_format.specs.Undo.{OldImage, Slot as Ends}
use Rattle.isp_space.specs.Spaces.{Space, next_free}
use Rattle.isp_undo.specs.Calls.{CanPush, Restacks, page_taken, space_after}
use Rattle.isp_undo.specs.Chains.{Chain, pushed}
use Rattle.isp_trx.specs.declared.keys.RowKey.{RowKey}

-- a row that is written at a key, on the tree of that root; what stands there; and whether it is to be marked
pub record Write : Type 0 where
  pub at : RowKey
  pub root : ℕ
  pub old : Option Kept
  pub row : List ℕ
  pub marked : Bool

abbrev pub write_at : RowKey → ℕ → Option Kept → List ℕ → Bool → Write
write_at at root old row marked = record { at = at; root = root; old = old; row = row; marked = marked }

-- the key isn't there, or its slot is smaller
abbrev pub is_smaller : ℕ → Option Kept → Bool
is_smaller size None = true
is_smaller size (Some kept) = nat_lt kept.slot size

abbrev pub is_put : Write → Bool
is_put w = is_smaller (length w.row) w.old

-- the contents have the old row as the newest of the slot, whatever chain it has
pub record PushesOld (pages : ℕ) (old : Contents) (slot : ℕ) (image : OldImage) (new : Contents) : Type 0 where
  pub makes : (slots : List Ends) (chain : Chain) (s : Space) → CanPush pages old slots slot chain s image → Restacks pages old new slots slot chain (pushed (next_free s) image chain) (space_after image chain s) (page_taken image chain s)

-- the contents have a tree on that page into which the row may be put, or whose slot of the key holds it
pub record CanWriteTree (pages : ℕ) (contents : Contents) (w : Write) (table : ℕ) (tree : Tree) (s : Space) : Type 0 where
  pub puts : is_put w ≡ true → CanPut pages contents table w.root w.at.key (length w.row) tree s
  pub is_tree : IsTree pages contents table w.root tree
  pub edits : is_put w ≡ false → holds w.at.key (length w.row) tree ≡ true

-- the row is in the tree then, whatever tree it is
pub record WritesTree (pages : ℕ) (old : Contents) (w : Write) (new : Contents) : Type 0 where
  pub puts : is_put w ≡ true → (table : ℕ) (tree : Tree) (s : Space) → CanPut pages old table w.root w.at.key (length w.row) tree s → IsPut pages old new table w.root w.at.key w.row tree s
  pub edits : is_put w ≡ false → (table : ℕ) (tree : Tree) → IsTree pages old table w.root tree → IsEdited pages old new table w.root tree (with_row w.at.key w.row w.marked)
