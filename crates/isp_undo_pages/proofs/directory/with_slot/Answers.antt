use Rattle.std.proofs.Common.{◌≡◌, ℕ, ◌+◌, ◌*◌, refl, ◌∙◌, ap}
use Rattle.isp_disk.specs.Moments.{Image, image_of, put}
use Rattle.isp_format.specs.Numbers.{bytes_of}
use Rattle.isp_format.proofs.Headers.{put_more}
use Rattle.isp_undo_pages.specs.Directory.{ends_in}
use Rattle.isp_undo_pages.proofs.DirectoryLaws.{slot_put}
use Rattle.isp_undo_pages.proofs.directory.with_slot.Goals as goal

pub returns : goal.returns
returns c slots directory =
    let old : Image = image_of c.args.p.now.bytes in
    let first : Image = image_of c.put_u32.new.p.bytes in
    let place = c.place_of-at.ensures.place in
    let put_first : first ≡ put old (64 + 8 * c.args.slot) (bytes_of 4 c.args.ends.first.0) = λ i p. (c.put_u32.ensures.put p ∙ ap (λ (n : ℕ). put old n (bytes_of 4 c.args.ends.first.0) p) place) i in
    let put_last : image_of c.put_u32-2.new.p.bytes ≡ put first (64 + 8 * c.args.slot + 4) (bytes_of 4 c.args.ends.last.0) = λ i p. (c.put_u32-2.ensures.put p ∙ ap (λ (n : ℕ). put first (n + 4) (bytes_of 4 c.args.ends.last.0) p) place) i in
    slot_put c.args.p.now.bytes _ slots c.args.slot (ends_in c.args.ends) c.requires directory (c.put_u32.ensures.fits, c.put_u32-2.ensures.fits) (put_last ∙ put_more old first (64 + 8 * c.args.slot) (bytes_of 4 c.args.ends.first.0) (bytes_of 4 c.args.ends.last.0) (64 + 8 * c.args.slot + 4) refl put_first)
