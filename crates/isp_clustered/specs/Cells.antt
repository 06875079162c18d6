-- What a call answers of a row.
use Rattle.isp_format.specs.Leaf.{Stored, slot_of}
use Rattle.isp_clustered.specs.declared.kept.Kept.{Kept}

abbrev pub kept_of : Stored → Kept
kept_of s = record { row = s.row; marked = s.marked; slot = slot_of s }
