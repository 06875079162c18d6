-- What the pages of a file stand for: their space, the tables of the catalogue with their trees and rows, and the old rows that
-- unfinished transactions noted. The tables that are committed are those of now with the old rows put back, the newest first
-- (undo logs of the MySQL 8.0 manual).
use Rattle.std.specs.Prelude.{◌≡◌, ℕ, suc, pred, ◌==◌, ℤ, false, List, [], ◌∷◌, map, Option, Some, None, if◌then◌else◌}
use Rattle.std.specs.List.{AllByRecursion}
use Rattle.isp_format.specs.Leaf.{Stored}
use Rattle.isp_format.specs.Undo.{OldImage, absent_kind, marked_kind, unmarked_kind}
use Rattle.isp_plain.specs.declared.value.Row.{Row}
use Rattle.isp_plain.specs.Tables.{Table}
use Rattle.isp_changes.specs.Changes.{RowChange, after_changes}
use Rattle.isp_catalog.specs.declared.table.TableDef.{TableDef}
use Rattle.isp_space.specs.Spaces.{Space}
use Rattle.isp_clustered.specs.Trees.{Tree}

-- a row as it stands on a leaf, and the row that its bytes spell
pub record FileRow : Type 0 where
  pub stored : Stored
  pub row : Row

abbrev pub row_key : FileRow → ℤ
row_key r = r.stored.key

-- a table, with its rows in the order of their keys, marked ones too
pub record FileTable : Type 0 where
  pub def : TableDef
  pub tree : Tree
  pub rows : List FileRow

-- what stood at a key, and the row that its bytes spell, if they are one
pub record FileImage : Type 0 where
  pub image : OldImage
  pub row : Option Row

pub record Database : Type 0 where
  pub space : Space
  pub tables : List FileTable
  -- the newest first
  pub images : List FileImage

-- ---- the tables of now

-- rows that aren't marked
abbrev pub shown : List FileRow → List (ℤ × Row)
shown [] = []
shown (r ∷ rows) = if r.stored.marked then shown rows else (r.stored.key, r.row) ∷ shown rows

-- the row that is seen where that one stands
abbrev pub seen : Option FileRow → Option Row
seen None = None
seen (Some r) = if r.stored.marked then None else Some r.row

-- no row is marked
abbrev pub HasNoMarked : Database → Type 0
HasNoMarked db = AllByRecursion (λ (t : FileTable). AllByRecursion (λ (r : FileRow). r.stored.marked ≡ false) t.rows) db.tables

abbrev pub table_of : FileTable → Table
table_of t = record { name = t.def.name; schema = t.def.schema; rows = shown t.rows }

abbrev pub tables_of : Database → List Table
tables_of db = map table_of db.tables

-- ---- the committed tables

-- an old row as the change that puts it back: no row where nothing stood or a marked one
abbrev pub back_of : FileImage → RowChange
back_of i = record { table = pred i.image.table; key = i.image.key; new = if i.image.kind == unmarked_kind then i.row else None }

-- the tables with old rows put back one after another, the newest first, so that the oldest one of a key stands in the end
abbrev pub put_back : List FileImage → List Table → List Table
put_back images tables = after_changes tables (map back_of images)

abbrev pub committed : Database → List Table
committed db = put_back db.images (tables_of db)

-- ---- what stands at a key, as an old row of the table at that place, from 0

abbrev pub kind_of : FileRow → ℕ
kind_of r = if r.stored.marked then marked_kind else unmarked_kind

abbrev pub image_of : ℕ → ℤ → Option FileRow → FileImage
image_of place key None = record { image = record { table = suc place; key = key; kind = absent_kind; row = [] }; row = None }
image_of place key (Some r) = record { image = record { table = suc place; key = key; kind = kind_of r; row = r.stored.row }; row = Some r.row }
