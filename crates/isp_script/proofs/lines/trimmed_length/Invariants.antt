use Rattle.std.proofs.Common.{◌≡◌, ◌≤◌, length, take}
use Rattle.isp_script.specs.Lines.{trimmed_length}
use Rattle.isp_script.proofs.lines.trimmed_length.Given as goal

abbrev pub invariant-loop-n : goal.invariant-loop-n
invariant-loop-n l = (l.n ≤ length l.bytes) × (trimmed_length (take l.n l.bytes) ≡ trimmed_length l.bytes)

abbrev pub decreases-loop-n : goal.decreases-loop-n
decreases-loop-n l = l.n
