use Rattle.std.proofs.Common.{◌≤◌, ◌-◌, List}
use Rattle.isp_disk.specs.Moments.{image_of}
use Rattle.isp_format.specs.Leaf.{Stored}
use Rattle.isp_cells.specs.Cells.{Stand, place_in}
use Rattle.isp_cells.proofs.CellLaws.{Walked}
use Rattle.isp_cells.proofs.cells.place_of.Given as goal

abbrev pub invariant-loop-at : goal.invariant-loop-at
invariant-loop-at l = (64 ≤ l.at) × (l.at ≤ l.used) × ((rows : List Stored) → Stand (image_of l.p.bytes) 64 l.used rows → Walked (image_of l.p.bytes) l.key l.at l.used (place_in l.key 64 rows))

abbrev pub decreases-loop-at : goal.decreases-loop-at
decreases-loop-at l = l.used - l.at
