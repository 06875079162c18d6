use Rattle.std.proofs.Common.{◌≡◌, take}
use Rattle.std.specs.List.{fold, flat_map}
use Rattle.isp_geom.specs.Bounds.{widened, points_of}
use Rattle.isp_geom.proofs.bounds.+rounding.Given as goal

abbrev pub invariant-round_members-loop-member : goal.invariant-round_members-loop-member
invariant-round_members-loop-member l = l.round ≡ fold widened l.initial.round (flat_map points_of (take l.member-index l.members))
