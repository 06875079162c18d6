use Rattle.std.proofs.Common.{◌≡◌, ◌≤◌, ◌++◌, take}
use Rattle.std.specs.List.{All, flat_map, sum_by}
use Rattle.isp_plain.specs.RowBytes.{value_bytes}
use Rattle.isp_row.specs.RowSpelling.{IsSpelled, value_spelling}
use Rattle.isp_row.proofs.writing.put_values.Given as goal

abbrev pub invariant-loop-value : goal.invariant-loop-value
invariant-loop-value l = (l.out.items ≡ l.initial.out.items ++ flat_map value_spelling (take l.value-index l.values))
    × (sum_by value_bytes l.values ≤ 8000 → All IsSpelled (take l.value-index l.values))
