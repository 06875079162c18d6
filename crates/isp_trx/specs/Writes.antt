-- What the calls of a transaction make of the database that the contents are, and of the tables that are committed.
use Rattle.std.specs.Prelude.{◌≡◌, ℕ, zero, suc, pred, ◌≤◌, Bool, true, false, List, [], ◌∷◌, ◌++◌, length, map, reverse, slice_get, slice_set, take, Option, Some, None, if◌then◌else◌}
use Rattle.std.specs.List.{AllByRecursion, list_any}
use Rattle.std.specs.Option.{option_map}
use Rattle.isp_clustered.specs.Cells.{kept_of}
use Rattle.isp_clustered.specs.Rows.{find, without}
use Rattle.isp_clustered.specs.Trees.{IsEdited, IsTree, Tree, rows_of}
use Rattle.isp_clustered.specs.declared.kept.Kept.{Kept}
use Rattle.isp_format.specs.Ranges.{Contents}
use Rattle.isp_space.specs.Spaces.{has_room, next_free}
use Rattle.isp_plain.specs.declared.value.Row.{Row}
use Rattle.isp_changes.specs.Changes.{RowChange, after_change, image_of}
use Rattle.isp_undo.specs.Chains.{Chain, images_of, newest_of, popped, pushed}
use Rattle.isp_image.specs.Courses.{ChangesOnly, names, stood_at}
use Rattle.isp_image.specs.Databases.{Database, FileImage, FileRow, FileTable, back_of, committed, tables_of}
use Rattle.isp_image.specs.Files.{IsSpelling}
use Rattle.isp_chained.specs.Chained.{ChainedFile, old_of}
use Rattle.isp_chained.specs.Courses.{Reaches, Step}
use Rattle.isp_chained.specs.Laws.{Finishing, newer_of}
use Rattle.isp_chained.specs.Steps.{AreDisjoint, IsFreeIn}
pub use Rattle.isp_trx.specs.Noting.{Write, is_put, is_smaller, write_at}
use Rattle.isp_trx.specs.Transactions.{old_image}
use Rattle.isp_trx.specs.declared.keys.RowKey.{RowKey}

abbrev pub place_of : RowKey → ℕ
place_of at = pred at.table

-- ---- a row is written

-- The contents are this database with these chains, of which the slot's is this one, and there is room; no other slot has an old row of
-- the key; the row spells one of the table, and isn't to be marked where it is put.
pub record CanWrite (pages : ℕ) (contents : Contents) (chains : List Chain) (slot : ℕ) (chain : Chain) (w : Write) (d : Database) (t : FileTable) (row : Row) : Type 0 where
  pub kept : ChainedFile pages contents d chains
  pub own : slice_get chains slot ≡ Some chain
  pub free : IsFreeIn (old_image w.at w.old) slot chains
  pub from : 1 ≤ w.at.table
  pub is_there : slice_get d.tables (place_of w.at) ≡ Some t
  pub root : t.def.root.0 ≡ w.root
  pub stands : w.old ≡ option_map kept_of (find w.at.key (rows_of t.tree))
  pub spells : IsSpelling t.def.schema w.at.key w.row row
  pub room : has_room pages d.space ≡ true
  pub unmarked : is_put w ≡ true → w.marked ≡ false

-- the change of plain tables that it is
abbrev pub change_of : Write → Row → RowChange
change_of w row = record { table = place_of w.at; key = w.at.key; new = if w.marked then None else Some row }

-- the slot's chain then: what stood there is its newest old row, on the page that was free next where one had to be taken
abbrev pub chain_with : Write → Database → Chain → Chain
chain_with w d chain = pushed (next_free d.space) (old_image w.at w.old) chain

-- The contents now are a database with the row written and what stood there noted in the slot; the committed tables are as they were.
pub record Wrote (pages : ℕ) (contents : Contents) (chains : List Chain) (slot : ℕ) (chain : Chain) (w : Write) (row : Row) (d : Database) : Type 0 where
  pub after : Database
  pub kept : ChainedFile pages contents after (slice_set chains slot (chain_with w d chain))
  pub now : tables_of after ≡ after_change (tables_of d) (change_of w row)
  pub same : committed after ≡ committed d
  pub step : Step d after
  -- what was noted stands between the old rows of slots behind it and all others
  pub newer : List FileImage
  pub image : FileImage
  pub older : List FileImage
  pub was : d.images ≡ newer ++ older
  pub images : after.images ≡ newer ++ image ∷ older
  pub newer_are : map old_of newer ≡ newer_of slot chains
  pub image_is : image.image ≡ old_image w.at w.old
  -- as a change of plain tables it is what stood there
  pub back : back_of image ≡ image_of (tables_of d) (change_of w row)
  pub only : ChangesOnly (place_of w.at) w.at.key d after

-- what the write makes of contents, whatever database and chains they are
pub record Writes (pages : ℕ) (old : Contents) (slot : ℕ) (w : Write) (new : Contents) : Type 0 where
  pub makes : (chains : List Chain) (chain : Chain) (d : Database) (t : FileTable) (row : Row) → CanWrite pages old chains slot chain w d t row → Wrote pages new chains slot chain w row d

-- ---- the newest change is taken back

-- the pages are the roots of the database's tables, in their order
abbrev pub AreRoots : List ℕ → Database → Type 0
AreRoots roots d = (place : ℕ) (t : FileTable) → slice_get d.tables place ≡ Some t → slice_get roots place ≡ Some t.def.root.0

-- The contents are this database with these chains, of which the slot's is this one, with so many old rows; no two slots have old rows of
-- one key.
pub record CanUndo (pages : ℕ) (contents : Contents) (chains : List Chain) (slot : ℕ) (chain : Chain) (count : ℕ) (roots : List ℕ) (d : Database) : Type 0 where
  pub kept : ChainedFile pages contents d chains
  pub own : slice_get chains slot ≡ Some chain
  pub disjoint : AreDisjoint chains
  pub counts : count ≡ length (images_of chain)
  pub roots_are : AreRoots roots d

-- The contents now are a database with the slot's newest old row put back, and noted no more; the committed tables are as they were.
pub record Undid (pages : ℕ) (contents : Contents) (chains : List Chain) (slot : ℕ) (chain : Chain) (d : Database) : Type 0 where
  pub after : Database
  pub kept : ChainedFile pages contents after (slice_set chains slot (popped chain))
  pub newer : List FileImage
  pub image : FileImage
  pub older : List FileImage
  pub was : d.images ≡ newer ++ image ∷ older
  pub images : after.images ≡ newer ++ older
  pub newer_are : map old_of newer ≡ newer_of slot chains
  pub image_is : newest_of chain ≡ Some image.image
  pub now : tables_of after ≡ after_change (tables_of d) (back_of image)
  pub same : committed after ≡ committed d
  pub step : Step d after
  pub only : ChangesOnly (pred image.image.table) image.image.key d after

abbrev pub UndidIf : ℕ → Contents → Contents → List Chain → ℕ → Chain → ℕ → Database → Type 0
UndidIf pages old new chains slot chain zero d = new ≡ old
UndidIf pages old new chains slot chain (suc count) d = Undid pages new chains slot chain d

pub record Undoes (pages : ℕ) (old : Contents) (slot : ℕ) (count : ℕ) (roots : List ℕ) (new : Contents) : Type 0 where
  pub makes : (chains : List Chain) (chain : Chain) (d : Database) → CanUndo pages old chains slot chain count roots d → UndidIf pages old new chains slot chain count d

-- ---- the changes are committed

pub record CanCommit (pages : ℕ) (contents : Contents) (chains : List Chain) (slot : ℕ) (chain : Chain) (d : Database) : Type 0 where
  pub kept : ChainedFile pages contents d chains
  pub own : slice_get chains slot ≡ Some chain
  pub disjoint : AreDisjoint chains

-- The contents now are a database with the same tables of now, in which the slot has no chain: at the keys of its old rows, and at no
-- others, the committed rows are those of now.
pub record DidCommit (pages : ℕ) (contents : Contents) (chains : List Chain) (slot : ℕ) (chain : Chain) (d : Database) : Type 0 where
  pub after : Database
  pub kept : ChainedFile pages contents after (slice_set chains slot [])
  pub newer : List FileImage
  pub mine : List FileImage
  pub older : List FileImage
  pub was : d.images ≡ newer ++ (mine ++ older)
  pub images : after.images ≡ newer ++ older
  pub newer_are : map old_of newer ≡ newer_of slot chains
  pub mine_are : map old_of mine ≡ reverse (images_of chain)
  pub tables : after.tables ≡ d.tables
  pub finishing : Finishing d after mine
  pub step : Step d after

pub record Commits (pages : ℕ) (old : Contents) (slot : ℕ) (new : Contents) : Type 0 where
  pub makes : (chains : List Chain) (chain : Chain) (d : Database) → CanCommit pages old chains slot chain d → DidCommit pages new chains slot chain d

-- ---- marked rows go

abbrev pub is_marked : Option FileRow → Bool
is_marked None = false
is_marked (Some r) = r.stored.marked

-- the key has no marked row
abbrev pub IsUnmarked : RowKey → Database → Type 0
IsUnmarked at d = is_marked (stood_at (place_of at) at.key d) ≡ false

-- the contents have a tree on that page from which the row of the key went
pub record Drops (pages : ℕ) (old : Contents) (root : ℕ) (at : RowKey) (new : Contents) : Type 0 where
  pub makes : (table : ℕ) (tree : Tree) → IsTree pages old table root tree → IsEdited pages old new table root tree (without at.key)

-- a key of one of the tables, of which no old row was noted
pub record IsFree (at : RowKey) (d : Database) : Type 0 where
  pub from : 1 ≤ at.table
  pub table : FileTable
  pub is_there : slice_get d.tables (place_of at) ≡ Some table
  pub unnamed : list_any (names (place_of at) at.key) d.images ≡ false

pub record CanSweep (pages : ℕ) (contents : Contents) (chains : List Chain) (roots : List ℕ) (keys : List RowKey) (d : Database) : Type 0 where
  pub kept : ChainedFile pages contents d chains
  pub roots_are : AreRoots roots d
  pub free : AllByRecursion (λ at. IsFree at d) keys

-- The contents are a database from which marked rows went, and nothing else.
pub record Swept (pages : ℕ) (contents : Contents) (chains : List Chain) (d : Database) : Type 0 where
  pub after : Database
  pub kept : ChainedFile pages contents after chains
  pub images : after.images ≡ d.images
  pub now : tables_of after ≡ tables_of d
  pub same : committed after ≡ committed d
  pub defs : map (λ (t : FileTable). t.def) after.tables ≡ map (λ (t : FileTable). t.def) d.tables
  pub unmarked : (at : RowKey) → IsUnmarked at d → IsUnmarked at after
  pub reaches : Reaches pages d after

-- and none of these keys has a marked row left
pub record SweptAll (pages : ℕ) (contents : Contents) (chains : List Chain) (keys : List RowKey) (d : Database) : Type 0 where
  pub swept : Swept pages contents chains d
  pub gone : AllByRecursion (λ at. IsUnmarked at swept.after) keys

-- what a sweep of keys makes of contents, once these of them are done
pub record Sweeps (pages : ℕ) (old : Contents) (roots : List ℕ) (keys done : List RowKey) (new : Contents) : Type 0 where
  pub makes : (chains : List Chain) (d : Database) → CanSweep pages old chains roots keys d → SweptAll pages new chains done d

-- so many of the keys are done
pub record SweepsSome (pages : ℕ) (old : Contents) (roots : List ℕ) (keys : List RowKey) (new : Contents) : Type 0 where
  pub count : ℕ
  pub sweeps : Sweeps pages old roots keys (take count keys) new

-- the same of one key, on the tree of that root
pub record SweepsAt (pages : ℕ) (old : Contents) (root : ℕ) (at : RowKey) (new : Contents) : Type 0 where
  pub makes : (roots : List ℕ) → slice_get roots (place_of at) ≡ Some root → Sweeps pages old roots (at ∷ []) (at ∷ []) new

-- what `get` answers of a mark
abbrev pub kept_mark : Option Kept → Bool
kept_mark None = false
kept_mark (Some kept) = kept.marked
