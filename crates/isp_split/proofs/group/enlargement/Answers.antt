use Rattle.std.proofs.Common.{◌≤◌, ap, arith}
use Rattle.isp_mbr.specs.Boxes.{area, union}
use Rattle.isp_mbr.proofs.BoxLaws.{area_grows, union_covers_left}
use Rattle.isp_split.proofs.group.enlargement.Goals as goal

pub overflow_sub-result : goal.overflow_sub-result
overflow_sub-result c =
    let cover = c.args.group.now.cover in
    let grows : area cover ≤ area (union cover c.args.b.now) = area_grows (union cover c.args.b.now) cover c.requires.ordered (union_covers_left cover c.args.b.now) in
    omega (arith, grows, c.requires.area_is, c.area_of.ensures.value, ap area c.union.ensures)
