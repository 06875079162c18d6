use Rattle.std.proofs.Common.{◌≡◌, ℕ, ◌+◌, ◌<◌, get_or}
use Rattle.isp_disk.proofs.mem_world.read_out.Given as goal

abbrev pub invariant-loop-count : goal.invariant-loop-count
invariant-loop-count l = (k : ℕ) → k < l.count → get_or l.into k 0 ≡ get_or l.image (l.at + k) 0
