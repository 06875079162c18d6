use Rattle.std.proofs.Common.{◌≡◌, ◌+◌, min, take}
use Rattle.std.specs.List.{sum_by}
use Rattle.isp_plain.specs.RowBytes.{value_bytes}
use Rattle.isp_plain.proofs.size.values_size.Given as goal

abbrev pub invariant-loop-value : goal.invariant-loop-value
invariant-loop-value l = l.size ≡ min (l.before + sum_by value_bytes (take l.value-index l.values)) 65536
