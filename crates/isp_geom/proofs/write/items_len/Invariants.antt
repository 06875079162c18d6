use Rattle.std.proofs.Common.{◌≡◌, ◌+◌, min, length, take}
use Rattle.std.specs.List.{flat_map}
use Rattle.isp_geom.proofs.write.items_len.Given as goal

abbrev pub invariant-loop-item : goal.invariant-loop-item
invariant-loop-item g l = l.len ≡ min (2 + length (flat_map g.T.Spell.spelled (take l.item-index l.items))) 65536
