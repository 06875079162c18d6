use Rattle.std.proofs.Common.{◌∙◌, ap}
use Rattle.isp_disk.specs.Moments.{image_of, slice}
use Rattle.isp_cells.specs.declared.cells.Cell.{Cell}
use Rattle.isp_cells.proofs.CellLaws.{first_stands}
use Rattle.isp_clustered.proofs.reading.copy_cell.Goals as goal

pub returns : goal.returns
returns c s rows st same =
    let f = first_stands (image_of c.args.p.now.bytes) c.args.at c.args.used s rows st in
    let long = c.from.ensures ∙ ap (λ (x : Cell). x.length) same in
    let row = c.in_ok-row.ensures ∙ c.piece.ensures ∙ ap (slice (image_of c.args.p.now.bytes) _) long ∙ f.row in
    λ i. record { row = row i; marked = (same i).marked; slot = (same i).slot }
