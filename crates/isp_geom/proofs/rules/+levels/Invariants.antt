use Rattle.std.proofs.Common.{◌≡◌, drop}
use Rattle.std.specs.List.{list_all}
use Rattle.isp_geom.specs.Rules.{is_form}
use Rattle.isp_geom.proofs.rules.+levels.Given as goal

abbrev pub invariant-are_members-loop-member : goal.invariant-are_members-loop-member
invariant-are_members-loop-member l = list_all (is_form l.levels) l.members ≡ list_all (is_form l.levels) (drop l.member-index l.members)
