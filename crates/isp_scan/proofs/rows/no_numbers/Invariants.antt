use Rattle.std.proofs.Common.{◌≡◌, ◌+◌, drop, length}
use Rattle.isp_plain.specs.RowBytes.{indexed_columns}
use Rattle.isp_scan.proofs.rows.no_numbers.Given as goal

abbrev pub invariant-loop-column : goal.invariant-loop-column
invariant-loop-column l = length l.numbers.items + indexed_columns (drop l.column-index l.columns) ≡ indexed_columns l.columns
