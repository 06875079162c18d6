-- A union covers what it is made of, so its area is no smaller.
use Rattle.isp_mbr.specs.Boxes.{area, union}
use Rattle.std.proofs.Common.{◌≤◌}
use Rattle.isp_mbr.proofs.BoxLaws.{area_grows, union_covers_left}
use Rattle.isp_mbr.proofs.boxes.enlargement.Goals as goal

pub overflow_sub-result : goal.overflow_sub-result
overflow_sub-result c =
    let grown : area c.args.b.now ≤ area (union c.args.b.now c.args.add.now) = area_grows (union c.args.b.now c.args.add.now) c.args.b.now c.area-old.ensures.ordered (union_covers_left c.args.b.now c.args.add.now) in
    rw (c.area-old.ensures.product, c.area.ensures.product, c.union.ensures) grown
