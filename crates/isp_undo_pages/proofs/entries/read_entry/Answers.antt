use Rattle.std.proofs.Common.{ℤ, ◌+◌, ◌∙◌, ap}
use Rattle.std.specs.Int.{cast_signed, cast_unsigned, w64}
use Rattle.isp_disk.specs.Moments.{image_of, slice}
use Rattle.isp_undo_pages.proofs.EntryLaws.{fields_of, key_back}
use Rattle.isp_undo_pages.proofs.entries.read_entry.Goals as goal

pub returns-clause-image : goal.returns-clause-image
returns-clause-image c image entry len =
    let fields = fields_of _ c.args.spot.at image entry in
    let read = c.get_i64-into.ensures ∙ ap (cast_signed w64) fields.key ∙ key_back image.key entry.is.key in
    let key = ap (λ (k : ℤ). cast_signed w64 (cast_unsigned w64 k)) read ∙ key_back image.key entry.is.key in
    let row = c.copy_row.ensures ∙ ap (slice (image_of c.args.p.now.bytes) (c.args.spot.at + 15)) len ∙ fields.row in
    let table = c.get_u32-into.ensures ∙ fields.table in
    λ i. record { table = table i; key = key i; kind = fields.kind i; row = row i }
