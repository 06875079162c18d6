-- Rows in the bytes of a leaf, and where they stand.
use Rattle.std.specs.Prelude.{◌≡◌, ℕ, ◌+◌, ◌≤◌, ℤ, Bool, false, int_lt, List, [], ◌∷◌, All, length, Option, Some, None, IfSome, if◌then◌else◌}
use Rattle.std.specs.Ordering.{int_eq}
use Rattle.std.specs.List.{flat_map}
use Rattle.isp_disk.specs.Moments.{Image, slice}
use Rattle.isp_format.specs.Kinds.{content_place}
use Rattle.isp_format.specs.Leaf.{IsStored, Stored, slot_of, stored_bytes, stored_head}
use Rattle.isp_cells.specs.declared.cells.Cell.{Cell}
use Rattle.isp_cells.specs.declared.cells.Place.{Place}

-- these rows stand in the image from one place to another, packed
pub record Stand (image : Image) (at to : ℕ) (rows : List Stored) : Type 0 where
  pub size : at + length (flat_map stored_bytes rows) ≡ to
  pub spelled : slice image at (length (flat_map stored_bytes rows)) ≡ flat_map stored_bytes rows
  pub each : All IsStored rows

-- a row without its key and its bytes
abbrev pub cell_of : Stored → Cell
cell_of s = record { marked = s.marked; slot = slot_of s; length = length s.row }

-- the cell ends at that place or before it, and its row is no longer than its slot
pub record IsWithin (at to : ℕ) (cell : Cell) : Type 0 where
  pub slot : at + stored_head + cell.slot ≤ to
  pub row : cell.length ≤ cell.slot

-- where the row of a key stands among rows that stand from a place on, or where it would
abbrev pub place_in : ℤ → ℕ → List Stored → Place
place_in key at [] = record { at = at; here = None }
place_in key at (s ∷ rows) = if int_lt s.key key then place_in key (at + stored_head + slot_of s) rows
    else record { at = at; here = if int_eq s.key key then Some (cell_of s) else None }

-- the place lies among rows that begin where the content of a page does and end there, and a row that stands there ends before
pub record IsPlaceWithin (used : ℕ) (place : Place) : Type 0 where
  pub from : content_place ≤ place.at
  pub to : place.at ≤ used
  pub here : IfSome place.here (IsWithin place.at used)

-- where a place ends: behind the row that stands there with the key, else where it begins
abbrev pub end_of : ℕ → Option Cell → ℕ
end_of at None = at
end_of at (Some cell) = at + stored_head + cell.slot

-- the row that stands at a place is marked
abbrev pub marked_in : Option Cell → Bool
marked_in None = false
marked_in (Some cell) = cell.marked

-- how many rows stand at a place
abbrev pub count_of : Option Cell → ℕ
count_of None = 0
count_of (Some cell) = 1
