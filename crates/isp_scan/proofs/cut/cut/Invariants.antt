use Rattle.std.proofs.Common.{◌≡◌, ◌++◌, drop, slice_get}
use Rattle.std.specs.List.{filter_map}
use Rattle.isp_scan.proofs.cut.cut.Given as goal

abbrev pub invariant-loop-column : goal.invariant-loop-column
invariant-loop-column l =
    l.values ++ filter_map (slice_get l.row.values) (drop l.column-index l.columns) ≡ filter_map (slice_get l.row.values) l.columns
