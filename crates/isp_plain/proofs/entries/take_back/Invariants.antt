use Rattle.std.proofs.Common.{◌≡◌, ◌≤◌, length, take}
use Rattle.isp_plain.specs.Entries.{without_rows}
use Rattle.isp_plain.proofs.entries.take_back.Given as goal

abbrev pub invariant-loop-left : goal.invariant-loop-left
invariant-loop-left l = (l.left ≤ length l.rows) × (without_rows l.entries.entries (take l.left l.rows) ≡ without_rows l.fn.entries.entries l.rows)

abbrev pub decreases-loop-left : goal.decreases-loop-left
decreases-loop-left l = l.left
