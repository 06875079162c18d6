use Rattle.std.proofs.Common.{◌≡◌, ◌++◌, take}
use Rattle.std.specs.List.{flat_map}
use Rattle.isp_geom.specs.Spelling.{spelling}
use Rattle.isp_geom.proofs.write.+putting.Given as goal

abbrev pub invariant-put_members-loop-member : goal.invariant-put_members-loop-member
invariant-put_members-loop-member l = l.out.items ≡ l.initial.out.items ++ flat_map spelling (take l.member-index l.members)
