use Rattle.std.proofs.Common.{◌-◌, ap, sym, subst, length, set, Some}
use Rattle.isp_split.specs.declared.side.Side.TheVariants.{First, Second}
use Rattle.isp_split.specs.Groups.{Sides}
use Rattle.isp_split.specs.UnderWay.{AreGroups}
use Rattle.isp_split.proofs.GroupLaws.{begun_groups}
use Rattle.isp_split.proofs.division.begin.Goals as goal

pub returns-clause-under_way : goal.returns-clause-under_way
returns-clause-under_way c =
    let are = begun_groups c.args.boxes.now c.args.i c.args.j c.group_of.result c.group_of-2.result c.requires.order c.requires.inside c.group_of.ensures.measured c.group_of-2.ensures.measured c.group_of.ensures.cover c.group_of-2.ensures.cover c.group_of.ensures.count c.group_of-2.ensures.count in
    subst (λ (s : Sides). AreGroups c.args.boxes.now s c.group_of.result c.group_of-2.result (length c.args.boxes.now - 2)) (sym (ap (λ (s : Sides). set (set s c.args.i (Some First)) c.args.j (Some Second)) c.in_ok-sides.ensures)) are
