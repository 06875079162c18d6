use Rattle.std.proofs.Common.{◌≡◌, ◌++◌, drop}
use Rattle.isp_wkt.specs.Printed.{chained, marked}
use Rattle.isp_wkt.proofs.printer.print_points.Given as goal

abbrev pub invariant-loop-point : goal.invariant-loop-point
invariant-loop-point l = l.out.items ++ chained marked l.before (drop l.point-index l.points) ≡ l.initial.out.items ++ chained marked 40 l.points
