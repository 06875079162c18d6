-- Rows as calls of a tree answer them, and the rows of plain tables that they are.
use Rattle.std.specs.Prelude.{◌≡◌, ℤ, Bool, false, not, ◌≤◌, length, Option, Some, None}
use Rattle.isp_format.specs.Leaf.{Stored, most_slot}
use Rattle.isp_plain.specs.declared.value.Row.{Row}
use Rattle.isp_clustered.specs.Rows.{find}
use Rattle.isp_clustered.specs.Trees.{rows_of}
use Rattle.isp_clustered.specs.declared.kept.Kept.{Kept}
use Rattle.isp_image.specs.Databases.{FileTable}
use Rattle.isp_image.specs.Files.{IsSpelling}

-- `get` answers a row that isn't marked
abbrev pub is_live : Option Kept → Bool
is_live None = false
is_live (Some kept) = not kept.marked

-- the tree of the table has this row at the key, unmarked
pub record StandsAt (t : FileTable) (key : ℤ) (row : Row) : Type 0 where
  pub stored : Stored
  pub there : find key (rows_of t.tree) ≡ Some stored
  pub own : stored.key ≡ key
  pub unmarked : stored.marked ≡ false
  pub spells : IsSpelling t.def.schema key stored.row row
  pub short : length stored.row ≤ most_slot
