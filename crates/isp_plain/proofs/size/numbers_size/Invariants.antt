use Rattle.std.proofs.Common.{◌≡◌, ◌*◌, min, take}
use Rattle.isp_plain.specs.RowBytes.{indexed_columns}
use Rattle.isp_plain.proofs.size.numbers_size.Given as goal

abbrev pub invariant-loop-column : goal.invariant-loop-column
invariant-loop-column l = l.size ≡ min (8 * indexed_columns (take l.column-index l.columns)) 65536
