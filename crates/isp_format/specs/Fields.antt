-- The sizes and places that the code has within what pages hold are those of the definitions.
use Rattle.std.specs.Prelude.{◌≡◌}
use Rattle.isp_format.specs.Inner.{child_place, most_names, name_size}
use Rattle.isp_format.specs.Leaf.{most_slot}
use Rattle.isp_format.specs.Undo.{image_head, image_key_place, image_kind_place, image_length_place, image_row_place, last_place, undo_slot_size, undo_slots}
use Rattle.isp_format.specs.declared.fields.TheConstants.{CHILD_PLACE, IMAGE_HEAD, IMAGE_KEY_PLACE, IMAGE_KIND_PLACE, IMAGE_LENGTH_PLACE, IMAGE_ROW_PLACE, LAST_PLACE, MOST_NAMES, MOST_SLOT, NAME_BYTES, UNDO_SLOTS, UNDO_SLOT_BYTES}

pub record AreTreeFields : Type 0 where
  pub slot : MOST_SLOT ≡ most_slot
  pub name : NAME_BYTES ≡ name_size
  pub child : CHILD_PLACE ≡ child_place
  pub names : MOST_NAMES ≡ most_names

pub record AreUndoFields : Type 0 where
  pub slots : UNDO_SLOTS ≡ undo_slots
  pub slot : UNDO_SLOT_BYTES ≡ undo_slot_size
  pub last : LAST_PLACE ≡ last_place
  pub head : IMAGE_HEAD ≡ image_head
  pub key : IMAGE_KEY_PLACE ≡ image_key_place
  pub kind : IMAGE_KIND_PLACE ≡ image_kind_place
  pub long : IMAGE_LENGTH_PLACE ≡ image_length_place
  pub row : IMAGE_ROW_PLACE ≡ image_row_place

-- those of trees and of undo chains
pub record AreFields : Type 0 where
  pub trees : AreTreeFields
  pub undo : AreUndoFields
