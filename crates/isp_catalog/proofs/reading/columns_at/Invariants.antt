use Rattle.std.proofs.Common.{◌≡◌, ◌+◌, ◌-◌, ◌*◌}
use Rattle.isp_catalog.specs.Reading.{columns_in}
use Rattle.isp_catalog.proofs.ColumnLoop.{with_front}
use Rattle.isp_catalog.proofs.reading.columns_at.Given as goal

abbrev pub invariant-loop-k : goal.invariant-loop-k
invariant-loop-k l = with_front l.columns (columns_in l.p.bytes (l.at + 37 * l.k) (l.count - l.k)) ≡ columns_in l.p.bytes l.at l.count
