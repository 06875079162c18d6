use Rattle.std.proofs.Common.{◌≡◌, ℕ, ◌+◌, ◌*◌, ◌<◌, sym, ◌∙◌, ap, arith}
use Rattle.isp_disk.specs.Moments.{image_of}
use Rattle.isp_format.specs.Empty.{empty_contents, first_fresh, first_header, fresh_place}
use Rattle.isp_format.specs.HeadValues.{header_in}
use Rattle.isp_format.specs.Numbers.{bytes_of}
use Rattle.isp_format.specs.Ranges.{page_bytes}
use Rattle.isp_format.proofs.EmptyPages.{head_put, headed, other_page, put_over, space_page}
use Rattle.isp_format.proofs.first_pages.first_page.Goals as goal

pub returns-then-number-ne0-clause-bytes : goal.returns-then-number-ne0-clause-bytes
returns-then-number-ne0-clause-bytes c = λ place small.
    let some : 0 < c.args.number = omega (arith, c.if-number-ne0.true) in
    c.set_head.ensures.bytes place
    ∙ head_put (image_of c.zeros-page.result.bytes) (header_in c.first_head.result) c.args.number place (c.zeros-page.ensures place) c.first_head.ensures
    ∙ sym (other_page c.args.number place some c.requires small)

pub returns-clause-bytes : goal.returns-clause-bytes
returns-clause-bytes c = λ place small.
    let zero : c.args.number ≡ 0 = c.if-number-ne0.false in
    let head : image_of c.set_head.new.p.bytes place ≡ headed 0 place =
    c.set_head.ensures.bytes place
    ∙ head_put (image_of c.zeros-page.result.bytes) (header_in c.first_head.result) 0 place (c.zeros-page.ensures place) (c.first_head.ensures ∙ ap first_header zero) in
    c.put_u32.ensures.put place
    ∙ put_over (image_of c.set_head.new.p.bytes) (headed 0) fresh_place (bytes_of 4 first_fresh) place head
    ∙ sym (space_page place small)
    ∙ ap (λ (n : ℕ). empty_contents (n * page_bytes + place)) (sym zero)
