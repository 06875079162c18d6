use Rattle.std.proofs.Common.{◌≡◌, ◌++◌, drop, map}
use Rattle.isp_plain.specs.Does.{cut}
use Rattle.isp_scan.proofs.cut.cut_rows.Given as goal

abbrev pub invariant-loop-row : goal.invariant-loop-row
invariant-loop-row l = l.found ++ map (cut l.columns) (drop l.row-index l.rows) ≡ map (cut l.columns) l.rows
