use Rattle.std.proofs.Common.{◌≡◌, take}
use Rattle.std.specs.List.{fold, flat_map}
use Rattle.isp_geom.specs.Bounds.{widened}
use Rattle.isp_geom.proofs.bounds.round_rings.Given as goal

abbrev pub invariant-loop-ring : goal.invariant-loop-ring
invariant-loop-ring l = l.round ≡ fold widened l.initial.round (flat_map (λ ring. ring) (take l.ring-index l.rings))
