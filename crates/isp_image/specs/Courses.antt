-- What changes of a database in one step: a row of a table is another one, a marked row goes, a table is added.
use Rattle.std.specs.Prelude.{◌≡◌, ℕ, suc, ◌+◌, ◌≤◌, ◌==◌, ◌&&◌, ℤ, Bool, true, false, [], ◌∷◌, ◌++◌, map, slice_get, slice_set, Option, Some, None}
use Rattle.std.specs.List.{list_any}
use Rattle.std.specs.Ordering.{int_eq}
use Rattle.isp_format.specs.Leaf.{stored_head}
use Rattle.isp_space.specs.Spaces.{Space}
use Rattle.isp_clustered.specs.Puts.{most_put, taken_times}
use Rattle.isp_clustered.specs.Trees.{Tree}
use Rattle.isp_changes.specs.Changes.{RowChange}
use Rattle.isp_image.specs.Databases.{Database, FileImage, FileRow, FileTable, row_key, seen}
use Rattle.isp_image.specs.Keyed.{found, placed}

-- the second database has this row, or none, at a key of the table at that place, from 0, and all other rows and tables of the first
pub record Exchanges (place : ℕ) (key : ℤ) (row : Option FileRow) (old new : Database) : Type 0 where
  pub table : FileTable
  pub is_there : slice_get old.tables place ≡ Some table
  pub tree : Tree
  pub tables : new.tables ≡ slice_set old.tables place (record { def = table.def; tree = tree; rows = placed row_key key row table.rows })

-- the same as a change of plain tables
abbrev pub change_at : ℕ → ℤ → Option FileRow → RowChange
change_at place key row = record { table = place; key = key; new = seen row }

-- what stands at the key of that table
abbrev pub stood : ℤ → Option FileTable → Option FileRow
stood key None = None
stood key (Some t) = found row_key key t.rows

abbrev pub stood_at : ℕ → ℤ → Database → Option FileRow
stood_at place key db = stood key (slice_get db.tables place)

-- the space, where a row is put: pages are taken and the row's bytes are counted
pub record IsPutSpace (size : ℕ) (old new : Space) : Type 0 where
  pub count : ℕ
  pub few : count ≤ most_put
  pub is : new ≡ (let s = taken_times count old in record s { bytes = old.bytes + (stored_head + size) })

-- the tables are defined as before, and no row is another but that of this key of the table at that place
pub record ChangesOnly (place : ℕ) (key : ℤ) (old new : Database) : Type 0 where
  pub defs : map (λ (t : FileTable). t.def) new.tables ≡ map (λ (t : FileTable). t.def) old.tables
  pub others : (p : ℕ) (k : ℤ) → ((place == p) && int_eq key k) ≡ false → stood_at p k new ≡ stood_at p k old

-- an old row is noted of that key
abbrev pub names : ℕ → ℤ → FileImage → Bool
names place key i = (i.image.table == suc place) && int_eq i.image.key key

-- a marked row goes that no old row was noted of
pub record IsDropped (place : ℕ) (key : ℤ) (old new : Database) : Type 0 where
  pub row : FileRow
  pub stood : stood_at place key old ≡ Some row
  pub marked : row.stored.marked ≡ true
  pub free : list_any (names place key) old.images ≡ false
  pub exchanges : Exchanges place key None old new
  pub images : new.images ≡ old.images
  pub space : new.space ≡ old.space

-- a table without rows is added, on a page that is taken for it
pub record IsAdded (table : FileTable) (old new : Database) : Type 0 where
  pub empty : table.rows ≡ []
  pub tables : new.tables ≡ old.tables ++ table ∷ []
  pub images : new.images ≡ old.images
  pub space : new.space ≡ (let s = taken_times 1 old.space in record s { tables = s.tables + 1 })
