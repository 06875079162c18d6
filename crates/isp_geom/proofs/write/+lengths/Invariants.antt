use Rattle.std.proofs.Common.{◌≡◌, ◌+◌, min, length, take}
use Rattle.std.specs.List.{flat_map}
use Rattle.isp_geom.specs.Spelling.{spelling}
use Rattle.isp_geom.proofs.write.+lengths.Given as goal

abbrev pub invariant-members_len-loop-member : goal.invariant-members_len-loop-member
invariant-members_len-loop-member l = l.len ≡ min (2 + length (flat_map spelling (take l.member-index l.members))) 65536
