use Rattle.std.proofs.Common.{◌≡◌, ℕ, ◌-◌, ◌≤◌, List, length}
use Rattle.isp_disk.specs.Moments.{image_of}
use Rattle.isp_format.specs.Inner.{IsInnerPage, Name}
use Rattle.isp_division.proofs.EntryLaws.{Counting}
use Rattle.isp_division.proofs.entries.count_up_to.Given as goal

abbrev pub invariant-loop-before : goal.invariant-loop-before
invariant-loop-before l = (l.before ≤ l.count) × ((table own level : ℕ) (names : List Name) → IsInnerPage l.p.bytes table own level names → l.count ≡ length names → Counting (image_of l.p.bytes) l.key names l.before)

abbrev pub decreases-loop-before : goal.decreases-loop-before
decreases-loop-before l = l.count - l.before
