-- The keys that a transaction has written, against what stands in the file: whatever is marked, or has an old row, has one of them.
use Rattle.std.specs.Prelude.{◌≡◌, ◌≤◌, ◌==◌, ◌&&◌, ℕ, pred, ℤ, Bool, true, List, slice_get, Some}
use Rattle.std.specs.List.{AllByRecursion, list_any}
use Rattle.std.specs.Ordering.{int_eq}
use Rattle.isp_image.specs.Courses.{stood_at}
use Rattle.isp_image.specs.Databases.{Database, FileImage, FileTable}
use Rattle.isp_trx.specs.Writes.{is_marked, place_of}
use Rattle.isp_trx.specs.declared.keys.RowKey.{RowKey}

-- one of the keys is this one of the table at that place, from 0
abbrev pub is_written : List RowKey → ℕ → ℤ → Bool
is_written keys place key = list_any (λ (at : RowKey). (place_of at == place) && int_eq at.key key) keys

-- the key is of a table of the database
pub record IsOfTable (d : Database) (at : RowKey) : Type 0 where
  pub from : 1 ≤ at.table
  pub table : FileTable
  pub is_there : slice_get d.tables (place_of at) ≡ Some table

-- all rows that are marked, and all that old rows were noted of, have one of these keys, each of a table that is there
pub record AreWritten (keys : List RowKey) (d : Database) : Type 0 where
  pub marked : (place : ℕ) (key : ℤ) → is_marked (stood_at place key d) ≡ true → is_written keys place key ≡ true
  pub noted : AllByRecursion (λ (i : FileImage). is_written keys (pred i.image.table) i.image.key ≡ true) d.images
  pub there : AllByRecursion (IsOfTable d) keys
