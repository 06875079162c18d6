-- A leaf of a clustered tree: rows packed behind the header, rising by key, each in a slot that may be longer than the row
-- (clustered indexes of the MySQL 8.0 manual; slots that keep their size are this project's own).
use Rattle.std.specs.Prelude.{◌≡◌, ℕ, ◌+◌, ◌≤◌, ℤ, Bool, true, false, List, ◌∷◌, ◌++◌, All, FitsSigned, length}
use Rattle.std.specs.Int.{cast_unsigned, w64}
use Rattle.std.specs.List.{flat_map}
use Rattle.isp_disk.specs.Moments.{image_of, slice}
use Rattle.isp_format.specs.Header.{header_of}
use Rattle.isp_format.specs.Kinds.{HasHead, clustered_owner, content_place, leaf_kind}
use Rattle.isp_format.specs.Numbers.{bytes_of}
use Rattle.isp_format.specs.Ranges.{page_bytes}

-- a row as it stands on a leaf
pub record Stored : Type 0 where
  pub key : ℤ
  -- whether it is marked as deleted
  pub marked : Bool
  pub row : List ℕ
  -- the bytes of the slot behind the row, which are free
  pub rest : List ℕ

-- how many bytes the row may grow to where it stands
abbrev pub slot_of : Stored → ℕ
slot_of s = length s.row + length s.rest

abbrev pub mark_byte : Bool → ℕ
mark_byte true = 1
mark_byte false = 0

-- a key, as two's complement
abbrev pub key_bytes : ℤ → List ℕ
key_bytes key = bytes_of 8 (cast_unsigned w64 key)

-- how many bytes stand before a row: key, mark, size of the slot, length of the row
abbrev pub stored_head : ℕ
stored_head = 13

-- where the mark, the size of the slot and the length stand in them
abbrev pub mark_place : ℕ
mark_place = 8

abbrev pub slot_place : ℕ
slot_place = 9

abbrev pub length_place : ℕ
length_place = 11

abbrev pub stored_bytes : Stored → List ℕ
stored_bytes s = key_bytes s.key ++ (mark_byte s.marked ∷ (bytes_of 2 (slot_of s) ++ (bytes_of 2 (length s.row) ++ (s.row ++ s.rest))))

-- how many bytes a slot has at most
abbrev pub most_slot : ℕ
most_slot = 1000

pub record IsStored (s : Stored) : Type 0 where
  pub key : FitsSigned w64 s.key
  pub slot : slot_of s ≤ most_slot

-- the bytes of that page are a leaf of that table with these rows, which links to the next page, 0 at the last leaf
pub record IsLeafPage (bytes : List ℕ) (table own next : ℕ) (rows : List Stored) : Type 0 where
  pub head : HasHead bytes leaf_kind 0 (clustered_owner table) own
  pub next_is : (header_of bytes).next ≡ next
  pub used : (header_of bytes).used ≡ content_place + length (flat_map stored_bytes rows)
  pub within : content_place + length (flat_map stored_bytes rows) ≤ page_bytes
  pub spelled : slice (image_of bytes) content_place (length (flat_map stored_bytes rows)) ≡ flat_map stored_bytes rows
  pub each : All IsStored rows
