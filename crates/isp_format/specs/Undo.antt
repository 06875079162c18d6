-- Undo chains: the directory of their slots on page 1, and the pages of a chain with old images, the oldest first (undo logs
-- of the MySQL 8.0 manual; that an entry's length stands at both of its ends is this project's own).
use Rattle.std.specs.Prelude.{◌≡◌, ℕ, ◌+◌, ◌^◌, ◌<◌, ◌≤◌, ℤ, List, ◌++◌, ◌∷◌, All, FitsSigned, length}
use Rattle.std.specs.Int.{w64}
use Rattle.std.specs.List.{flat_map}
use Rattle.isp_disk.specs.Moments.{image_of, slice}
use Rattle.isp_format.specs.Header.{header_of}
use Rattle.isp_format.specs.Kinds.{HasHead, content_place, undo_directory_kind, undo_kind}
use Rattle.isp_format.specs.Leaf.{key_bytes, most_slot}
use Rattle.isp_format.specs.Numbers.{bytes_of}
use Rattle.isp_format.specs.Ranges.{page_bytes}

-- how many slots the directory has
abbrev pub undo_slots : ℕ
undo_slots = 32

-- how many bytes a slot has, and where the last page of its chain stands in them
abbrev pub undo_slot_size : ℕ
undo_slot_size = 8

abbrev pub last_place : ℕ
last_place = 4

-- the first and the last page of a slot's chain, 0 where the slot is free
abbrev pub Slot : Type 0
Slot = ℕ × ℕ

abbrev pub slot_bytes : Slot → List ℕ
slot_bytes slot = bytes_of 4 slot.0 ++ bytes_of 4 slot.1

abbrev pub IsSlot : Slot → Type 0
IsSlot slot = (slot.0 < 256 ^ 4) × (slot.1 < 256 ^ 4)

-- the bytes of page 1 say this
pub record IsUndoDirectory (bytes : List ℕ) (slots : List Slot) : Type 0 where
  pub head : HasHead bytes undo_directory_kind 0 0 1
  pub count : length slots ≡ undo_slots
  pub spelled : slice (image_of bytes) content_place (length (flat_map slot_bytes slots)) ≡ flat_map slot_bytes slots
  pub each : All IsSlot slots

-- what stood at a key: nothing, a row, or a row with its mark
abbrev pub absent_kind : ℕ
absent_kind = 0

abbrev pub unmarked_kind : ℕ
unmarked_kind = 1

abbrev pub marked_kind : ℕ
marked_kind = 2

-- an old image
pub record OldImage : Type 0 where
  pub table : ℕ
  pub key : ℤ
  pub kind : ℕ
  pub row : List ℕ

-- how many bytes an entry has beside its row
abbrev pub image_head : ℕ
image_head = 17

-- where the key, the kind, the length of the row and the row stand in it
abbrev pub image_key_place : ℕ
image_key_place = 4

abbrev pub image_kind_place : ℕ
image_kind_place = 12

abbrev pub image_length_place : ℕ
image_length_place = 13

abbrev pub image_row_place : ℕ
image_row_place = 15

-- the bytes of an entry
abbrev pub image_bytes : OldImage → List ℕ
image_bytes i = bytes_of 4 i.table ++ (key_bytes i.key ++ (i.kind ∷ (bytes_of 2 (length i.row) ++ (i.row ++ bytes_of 2 (image_head + length i.row)))))

pub record IsImage (i : OldImage) : Type 0 where
  pub table : i.table < 256 ^ 4
  pub key : FitsSigned w64 i.key
  pub kind : i.kind ≤ marked_kind
  pub row : length i.row ≤ most_slot

-- the bytes of that page are a page of an undo chain with these images, between these pages, 0 where there is none
pub record IsUndoPage (bytes : List ℕ) (own before next : ℕ) (images : List OldImage) : Type 0 where
  pub head : HasHead bytes undo_kind 0 0 own
  pub before_is : (header_of bytes).prev ≡ before
  pub next_is : (header_of bytes).next ≡ next
  pub used : (header_of bytes).used ≡ content_place + length (flat_map image_bytes images)
  pub within : content_place + length (flat_map image_bytes images) ≤ page_bytes
  pub spelled : slice (image_of bytes) content_place (length (flat_map image_bytes images)) ≡ flat_map image_bytes images
  pub each : All IsImage images
