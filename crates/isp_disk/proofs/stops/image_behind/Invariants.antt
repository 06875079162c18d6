use Rattle.std.proofs.Common.{◌≡◌, ℕ, length, take}
use Rattle.isp_disk.specs.InMemory.{held_after}
use Rattle.isp_disk.specs.Moments.{image_of}
use Rattle.isp_disk.proofs.stops.image_behind.Given as goal

abbrev pub invariant-loop-i : goal.invariant-loop-i
invariant-loop-i l = (length l.image.items ≡ length l.first) × ((place : ℕ) → image_of l.image.items place ≡ (held_after l.first (take l.i l.log.calls)).image place)
