use Rattle.std.proofs.Common.{◌≡◌, ℕ, ◌-◌, ◌<◌, false, length, get_or, drop, reverse}
use Rattle.isp_disk.specs.Stops.{is_written_at, last_writes}
use Rattle.isp_disk.proofs.stops.last_writes.Given as goal

abbrev pub invariant-loop-i : goal.invariant-loop-i
invariant-loop-i l = (l.last.items ≡ reverse (last_writes (drop (length l.writes - l.i) l.writes))) × (length l.seen.items ≡ l.fn.size) × ((p : ℕ) → p < l.fn.size → get_or l.seen.items p false ≡ is_written_at p (drop (length l.writes - l.i) l.writes))
