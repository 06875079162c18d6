use Rattle.std.proofs.Common.{ℕ, ◌<◌}
use Rattle.isp_mbr.specs.Boxes.{IsBox}
use Rattle.isp_rnode.specs.Nodes.{box_in, entry_place}
use Rattle.isp_rnode.proofs.reading.readable.Given as goal

abbrev pub invariant-loop-i : goal.invariant-loop-i
invariant-loop-i l = (k : ℕ) → k < l.i → IsBox (box_in l.p.bytes (entry_place k))
