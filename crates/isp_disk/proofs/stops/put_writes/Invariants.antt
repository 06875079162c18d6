use Rattle.std.proofs.Common.{◌≡◌, ◌-◌, drop, length}
use Rattle.isp_disk.specs.Stops.{put_writes, torn_behind}
use Rattle.isp_disk.proofs.stops.put_writes.Given as goal

abbrev pub invariant-loop-i : goal.invariant-loop-i
invariant-loop-i l = (length l.image.items ≡ length l.initial.image.items) × (put_writes (torn_behind (l.kept - l.i) l.fill (drop l.i l.writes)) l.image.items ≡ put_writes (torn_behind l.kept l.fill l.writes) l.initial.image.items)
