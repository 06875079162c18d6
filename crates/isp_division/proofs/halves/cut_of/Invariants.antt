use Rattle.std.proofs.Common.{◌*◌, ◌-◌, ◌<◌, ◌≤◌, List}
use Rattle.isp_disk.specs.Moments.{image_of}
use Rattle.isp_format.specs.Leaf.{Stored}
use Rattle.isp_cells.specs.Cells.{Stand}
use Rattle.isp_division.proofs.CutLaws.{Cutting}
use Rattle.isp_division.proofs.halves.cut_of.Given as goal

abbrev pub invariant-loop-at : goal.invariant-loop-at
invariant-loop-at l = (l.at ≤ l.used) × (13 * l.rows ≤ l.at) × ((rows : List Stored) → Stand (image_of l.c.bytes) 0 l.used rows → 4032 < l.used → l.used ≤ 5045 → Cutting (image_of l.c.bytes) l.used rows l.at l.rows)

abbrev pub decreases-loop-at : goal.decreases-loop-at
decreases-loop-at l = l.used - l.at
