use Rattle.std.proofs.Common.{refl, ◌∙◌, ap, arith}
use Rattle.isp_row.specs.Reading.{geometry_in}
use Rattle.isp_row.proofs.FieldLaws.{geometry_again, geometry_none}
use Rattle.isp_row.proofs.reading.geometry.Goals as goal

pub returns-in-Ok : goal.returns-in-Ok
returns-in-Ok c = let found = c.in-Ok.ensures.found in ap geometry_in found.1 ∙ geometry_again c.in-Ok.geometry found.0

pub returns-in-Err-NotGeometry : goal.returns-in-Err-NotGeometry
returns-in-Err-NotGeometry c =
    let refused = rw c.in-Err-NotGeometry.field-0-is at c.in-Err-NotGeometry.ensures.refused in
    geometry_none c.args.bytes.now (λ i. omega (arith, c.type_inv.bytes i)) (refused refl)
