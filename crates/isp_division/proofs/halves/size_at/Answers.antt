use Rattle.std.proofs.Common.{◌∙◌, arith}
use Rattle.isp_disk.specs.Moments.{image_of}
use Rattle.isp_cells.proofs.CellLaws.{first_stands}
use Rattle.isp_division.proofs.halves.size_at.Goals as goal

pub overflow_add-size : goal.overflow_add-size
overflow_add-size c =
    let small = c.slot_at-size.ensures.small in
    omega (arith, small)

pub returns-else-size-used-clause-stands : goal.returns-else-size-used-clause-stands
returns-else-size-used-clause-stands c s rows st =
    let f = first_stands (image_of c.args.c.now.bytes) c.args.at c.args.used s rows st in
    let slot = c.slot_at-size.ensures.slot ∙ f.slot in
    let inside = f.inside in
    let far = c.if-size-used.false in
    absurd (omega (arith, slot, inside, far))
