-- The slots of the undo directory.
use Rattle.std.specs.Prelude.{ℕ, List, get_or}
use Rattle.isp_format.specs.Undo.{Slot as Ends}
use Rattle.isp_undo_pages.specs.declared.directory.Slot.{Slot}

-- the first and the last page of the chain of that slot
abbrev pub ends_at : ℕ → List Ends → Ends
ends_at slot slots = get_or slots slot (0, 0)

abbrev pub ends_in : Slot → Ends
ends_in slot = (slot.first.0, slot.last.0)
