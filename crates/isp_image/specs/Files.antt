-- The contents of a file that is kept: all that its tables stand for is readable, and each page in use belongs to one of them, to the
-- free chain or to an undo chain.
use Rattle.std.specs.Prelude.{◌≡◌, ◌≢◌, ℕ, suc, pred, ◌<◌, ◌≤◌, ◌==◌, ◌&&◌, nat_le, nat_lt, ℤ, Bool, true, false, cond, List, [], length, map, slice_get, Option, Some, None}
use Rattle.std.specs.List.{AllByRecursion}
use Rattle.isp_base.specs.Lists.{times}
use Rattle.isp_format.specs.Empty.{first_fresh}
use Rattle.isp_format.specs.Leaf.{slot_of}
use Rattle.isp_format.specs.Ranges.{Contents}
use Rattle.isp_format.specs.Undo.{OldImage, absent_kind, marked_kind, undo_slots}
use Rattle.isp_plain.specs.declared.value.Row.{Row}
use Rattle.isp_plain.specs.declared.value.Schema.{Schema}
use Rattle.isp_plain.specs.Lined.{is_lined_row}
use Rattle.isp_row.specs.RowSpelling.{Spells}
use Rattle.isp_catalog.specs.Catalogue.{HasTables}
use Rattle.isp_space.specs.Spaces.{Space}
use Rattle.isp_clustered.specs.Trees.{IsTree, pages_of, rows_of}
use Rattle.isp_image.specs.Databases.{Database, FileImage, FileRow, FileTable, row_key}
use Rattle.isp_image.specs.Keyed.{found}

-- ---- who has a page

pub data Owner : Type 0 where
  nobody : Owner
  of_free : Owner
  -- a table's tree, by its number from 1
  of_table : ℕ → Owner
  -- an undo chain, by its slot
  of_slot : ℕ → Owner

abbrev pub is_owner : Owner → Owner → Bool
is_owner nobody nobody = true
is_owner of_free of_free = true
is_owner (of_table n) (of_table m) = n == m
is_owner (of_slot n) (of_slot m) = n == m
is_owner _ _ = false

-- these are the owner's pages, each once
abbrev pub Owns : (ℕ → Owner) → Owner → List ℕ → Type 0
Owns owner who pages = (page : ℕ) → times page pages ≡ cond (is_owner who (owner page)) 1 0

-- The free chain has its pages; nobody has the pages that every file has, nor those that were never used.
pub record OwnsSpace (owner : ℕ → Owner) (s : Space) : Type 0 where
  pub free : Owns owner of_free s.free
  pub first : (page : ℕ) → page < first_fresh → owner page ≡ nobody
  pub used : (page : ℕ) → first_fresh ≤ page → page < s.fresh → owner page ≢ nobody
  pub never : (page : ℕ) → s.fresh ≤ page → owner page ≡ nobody

-- who has a page is the free chain, a table that is there, by its number from 1, or a slot of the directory
abbrev pub is_known : ℕ → Owner → Bool
is_known tables nobody = true
is_known tables of_free = true
is_known tables (of_table n) = nat_le 1 n && nat_le n tables
is_known tables (of_slot n) = nat_lt n undo_slots

-- ---- tables

-- the bytes of a row spell a row of the table, whose texts have no line feed
pub record IsSpelling (schema : Schema) (key : ℤ) (bytes : List ℕ) (row : Row) : Type 0 where
  pub numbers : List ℕ
  pub spells : Spells schema key bytes row numbers
  pub lined : is_lined_row row ≡ true

abbrev pub IsFileRow : Schema → FileRow → Type 0
IsFileRow schema r = IsSpelling schema r.stored.key r.stored.row r.row

-- the contents have the table of that number
pub record IsFileTable (pages : ℕ) (contents : Contents) (number : ℕ) (t : FileTable) : Type 0 where
  pub number_is : t.def.number ≡ number
  pub tree : IsTree pages contents number t.def.root.0 t.tree
  pub rows : rows_of t.tree ≡ map (λ (r : FileRow). r.stored) t.rows
  pub each : AllByRecursion (IsFileRow t.def.schema) t.rows

-- ---- old rows

-- nothing stood there; or the bytes spell a row
abbrev pub IsOldRow : Schema → OldImage → Option Row → Type 0
IsOldRow schema image None = (image.kind ≡ absent_kind) × (image.row ≡ [])
IsOldRow schema image (Some row) = (1 ≤ image.kind) × (image.kind ≤ marked_kind) × IsSpelling schema image.key image.row row

-- an old row of one of the tables, at a key that the table has, with a slot that holds it
pub record IsFileImage (tables : List FileTable) (i : FileImage) : Type 0 where
  pub from : 1 ≤ i.image.table
  pub table : FileTable
  pub is_there : slice_get tables (pred i.image.table) ≡ Some table
  pub row : FileRow
  pub stands : found row_key i.image.key table.rows ≡ Some row
  pub held : length i.image.row ≤ slot_of row.stored
  pub means : IsOldRow table.def.schema i.image i.row

-- ---- the file

-- The contents of a file of so many pages are this database, each page in use has one owner, and the old rows are of its tables.
-- What stands on the pages of undo chains isn't said here.
pub record KeptFile (pages : ℕ) (contents : Contents) (db : Database) : Type 0 where
  pub catalogue : HasTables pages contents db.space (map (λ (t : FileTable). t.def) db.tables)
  pub each : (place : ℕ) (t : FileTable) → slice_get db.tables place ≡ Some t → IsFileTable pages contents (suc place) t
  pub noted : AllByRecursion (IsFileImage db.tables) db.images
  pub owner : ℕ → Owner
  pub shared : OwnsSpace owner db.space
  pub trees : (place : ℕ) (t : FileTable) → slice_get db.tables place ≡ Some t → Owns owner (of_table (suc place)) (pages_of t.tree)
  pub known : (page : ℕ) → is_known (length db.tables) (owner page) ≡ true
