use Rattle.std.proofs.Common.{◌≡◌, ◌++◌, drop, map}
use Rattle.std.specs.List.{list_any}
use Rattle.isp_plain.specs.Does.{with_sets}
use Rattle.isp_work.specs.Finding.{is_too_large}
use Rattle.isp_scan.proofs.rows.updated_rows.Given as goal

abbrev pub invariant-loop-row : goal.invariant-loop-row
invariant-loop-row l =
    (l.found ++ map (with_sets l.sets) (drop l.row-index l.rows) ≡ map (with_sets l.sets) l.rows)
    × (list_any (is_too_large l.schema l.sets) (drop l.row-index l.rows) ≡ list_any (is_too_large l.schema l.sets) l.rows)
