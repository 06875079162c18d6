use Rattle.std.proofs.Common.{◌≡◌, take}
use Rattle.std.specs.List.{fold, flat_map}
use Rattle.isp_geom.specs.Bounds.{widened}
use Rattle.isp_geom.proofs.bounds.round_polygons.Given as goal

abbrev pub invariant-loop-polygon : goal.invariant-loop-polygon
invariant-loop-polygon l = l.round ≡ fold widened l.initial.round (flat_map (flat_map (λ ring. ring)) (take l.polygon-index l.polygons))
