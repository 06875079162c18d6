use Rattle.std.proofs.Common.{◌≡◌, take}
use Rattle.isp_plain.specs.RowBytes.{indexed_columns}
use Rattle.isp_catalog.proofs.limits.indexed.Given as goal

abbrev pub invariant-loop-column : goal.invariant-loop-column
invariant-loop-column l = l.count ≡ indexed_columns (take l.column-index l.columns)
