-- Laws of databases: what a marked row that goes leaves of the tables, and that a file is kept by its pages in use.
use Rattle.std.specs.Prelude.{◌≡◌, ℕ, ◌<◌, ℤ, List, Some}
use Rattle.isp_format.specs.Ranges.{Contents, page_of}
use Rattle.isp_image.specs.Courses.{IsDropped}
use Rattle.isp_image.specs.Databases.{Database, FileRow, committed, row_key, tables_of}
use Rattle.isp_image.specs.Files.{KeptFile}
use Rattle.isp_image.specs.Keyed.{RisesBy, found, placed}

-- a marked row that goes leaves the committed tables and those of now
pub record Dropping (old new : Database) : Type 0 where
  pub same : committed new ≡ committed old
  pub now : tables_of new ≡ tables_of old

abbrev pub DroppingKeeps : Type 0
DroppingKeeps = (pages : ℕ) (contents : Contents) (old new : Database) (place : ℕ) (key : ℤ)
    → KeptFile pages contents old → IsDropped place key old new → Dropping old new

-- in rows that rise, what is set at a key and set back is the old list
abbrev pub SetBackIsOld : Type 0
SetBackIsOld = (key : ℤ) (row : FileRow) (rows : List FileRow) → row_key row ≡ key → RisesBy row_key rows
    → placed row_key key (found row_key key rows) (placed row_key key (Some row) rows) ≡ rows

-- pages that were never used may have any bytes
abbrev pub KeptIsLocal : Type 0
KeptIsLocal = (pages : ℕ) (old new : Contents) (db : Database) → KeptFile pages old db
    → ((page : ℕ) → page < db.space.fresh → page_of new page ≡ page_of old page) → KeptFile pages new db
