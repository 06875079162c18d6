use Rattle.std.proofs.Common.{◌≡◌, take}
use Rattle.std.specs.List.{fold}
use Rattle.isp_geom.specs.Bounds.{widened}
use Rattle.isp_geom.proofs.bounds.round_points.Given as goal

abbrev pub invariant-loop-point : goal.invariant-loop-point
invariant-loop-point l = l.round ≡ fold widened l.initial.round (take l.point-index l.points)
