-- Old images in the bytes of an undo page.
use Rattle.std.specs.Prelude.{◌≡◌, ℕ, ◌+◌, ◌≤◌, List, length, take}
use Rattle.std.specs.List.{flat_map}
use Rattle.isp_disk.specs.Moments.{Image, slice}
use Rattle.isp_format.specs.Kinds.{content_place}
use Rattle.isp_format.specs.Undo.{IsImage, OldImage, image_bytes, image_head, marked_kind}
use Rattle.isp_format.specs.Leaf.{most_slot}
use Rattle.isp_undo_pages.specs.declared.entries.Spot.{Spot}
use Rattle.isp_undo_pages.specs.declared.buf.UndoBuf.{UndoBuf}

-- the old image that a buffer has
abbrev pub image_in : UndoBuf → OldImage
image_in buf = record { table = buf.table; key = buf.key; kind = buf.kind; row = take buf.len buf.bytes }

-- a buffer that has one
pub record IsBuf (buf : UndoBuf) : Type 0 where
  pub kind : buf.kind ≤ marked_kind
  pub len : buf.len ≤ most_slot

-- where the last of these images stands, and how long its row is
abbrev pub spot_behind : List OldImage → OldImage → Spot
spot_behind images image = record { at = content_place + length (flat_map image_bytes images); len = length image.row }

-- an entry with a row of so many bytes lies there, and ends at that place or before it
pub record IsSpotWithin (used : ℕ) (spot : Spot) : Type 0 where
  pub from : content_place ≤ spot.at
  pub to : spot.at + image_head + spot.len ≤ used
  pub most : spot.len ≤ most_slot

-- an entry stands there
pub record IsEntry (image : Image) (at : ℕ) (i : OldImage) : Type 0 where
  pub spelled : slice image at (length (image_bytes i)) ≡ image_bytes i
  pub is : IsImage i
