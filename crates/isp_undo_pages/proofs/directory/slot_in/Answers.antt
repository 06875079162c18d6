use Rattle.std.proofs.Common.{ℕ, ◌+◌, ◌∙◌, ap}
use Rattle.isp_disk.specs.Moments.{image_of}
use Rattle.isp_format.specs.Numbers.{number_at}
use Rattle.isp_undo_pages.proofs.DirectoryLaws.{ends_stand}
use Rattle.isp_undo_pages.proofs.directory.slot_in.Goals as goal

pub returns-clause-ends : goal.returns-clause-ends
returns-clause-ends c slots directory =
    let stand = ends_stand c.args.p.now.bytes slots c.args.slot c.requires directory in
    let place = c.place_of-at.ensures.place in
    let first = c.get_u32.ensures ∙ ap (number_at 4 (image_of c.args.p.now.bytes)) place ∙ stand.0 in
    let last = c.get_u32-2.ensures ∙ ap (λ (n : ℕ). number_at 4 (image_of c.args.p.now.bytes) (n + 4)) place ∙ stand.1 in
    λ i. (first i, last i)
