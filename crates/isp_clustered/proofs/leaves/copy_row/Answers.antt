use Rattle.std.proofs.Common.{rules, ◌∙◌}
use Rattle.std.specs.Prelude.{FitsSigned}
use Rattle.std.specs.Int.{w64}
use Rattle.std.proofs.lemmas.Int.{to_z-of_z}
use Rattle.isp_disk.specs.Moments.{image_of}
use Rattle.isp_cells.proofs.CellLaws.{first_stands}
use Rattle.isp_clustered.proofs.leaves.copy_row.Goals as goal

pub returns : goal.returns
returns c s rows st same =
    let f = first_stands (image_of c.args.p.now.bytes) c.args.at c.args.used s rows st in
    let kept = c.in_ok-kept.ensures s rows st same in
    let fits : FitsSigned w64 c.get_i64-key.result = search rules in
    let key = to_z-of_z w64 c.get_i64-key.result fits ∙ c.get_i64-key.ensures ∙ f.key in
    λ i. record { key = key i; kept = kept i }
