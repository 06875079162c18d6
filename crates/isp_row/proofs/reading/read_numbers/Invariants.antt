use Rattle.std.proofs.Common.{◌≡◌, drop}
use Rattle.isp_row.specs.Reading.{behind, each_at, entry_at}
use Rattle.isp_row.proofs.reading.read_numbers.Given as goal

abbrev pub invariant-loop-column : goal.invariant-loop-column
invariant-loop-column l = behind l.numbers.items (each_at entry_at (drop l.column-index l.columns) l.from) ≡ behind l.initial.numbers.items (each_at entry_at l.columns l.initial.from)
