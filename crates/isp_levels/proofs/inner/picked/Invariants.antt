use Rattle.std.proofs.Common.{◌≡◌, ℕ, ◌+◌, ◌*◌, ◌-◌, List, length}
use Rattle.isp_disk.specs.Moments.{image_of}
use Rattle.isp_format.specs.Inner.{IsInnerPage, Name}
use Rattle.isp_levels.specs.Inners.{number_of}
use Rattle.isp_levels.proofs.InnerLaws.{Picking}
use Rattle.isp_levels.proofs.inner.picked.Given as goal

abbrev pub invariant-loop-x : goal.invariant-loop-x
invariant-loop-x l = (l.at ≡ 64 + 12 * l._x) × ((table own level : ℕ) (names : List Name) → IsInnerPage l.p.bytes table own level names → l.count ≡ length names → Picking (image_of l.p.bytes) l.key names l.at (l.count - l._x) (number_of l.found))
