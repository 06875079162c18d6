use Rattle.std.proofs.Common.{◌≡◌, ℕ, ◌+◌, ◌-◌, length, ◌∙◌, ap, arith}
use Rattle.std.specs.List.{flat_map}
use Rattle.isp_disk.specs.Moments.{image_of}
use Rattle.isp_format.specs.Numbers.{number_at}
use Rattle.isp_format.specs.Undo.{image_bytes}
use Rattle.isp_undo_pages.proofs.EntryLaws.{fields_of, newest_stands}
use Rattle.isp_undo_pages.proofs.entries.newest.Goals as goal

pub returns-then-used-clause-spot : goal.returns-then-used-clause-spot
returns-then-used-clause-spot c own before next images image page used =
    let stands = newest_stands _ own before next c.args.used images image page used in
    let end = stands.end in
    let from = stands.from in
    let low = c.if-used.true in
    absurd (omega (arith, end, from, low))

pub returns-clause-spot : goal.returns-clause-spot
returns-clause-spot c own before next images image page used =
    let stands = newest_stands _ own before next c.args.used images image page used in
    let end = stands.end in
    let at : ℕ = 64 + length (flat_map image_bytes images) in
    let place : c.args.used - 2 ≡ at + 15 + length image.row = omega (arith, end) in
    let whole = c.from.ensures ∙ c.get_u16.ensures ∙ ap (number_at 2 (image_of c.args.p.now.bytes)) place ∙ (fields_of _ at image stands.entry).whole in
    c.spot_of.ensures.spot at (length image.row) stands.from stands.most whole end
