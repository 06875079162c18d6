use Rattle.std.proofs.Common.{◌≡◌, drop}
use Rattle.isp_row.specs.Reading.{behind, column_at, each_at}
use Rattle.isp_row.proofs.reading.read_values.Given as goal

abbrev pub invariant-loop-column : goal.invariant-loop-column
invariant-loop-column l = behind l.values (each_at column_at (drop l.column-index l.columns) l.from) ≡ behind l.initial.values (each_at column_at l.columns l.initial.from)
