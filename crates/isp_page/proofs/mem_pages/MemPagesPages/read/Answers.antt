use Rattle.std.proofs.Common.{◌≡◌, ◌+◌, ◌-◌, ◌*◌, ◌≤◌, ℕ, List, length, take, drop, ◌∙◌, ap, arith}
use Rattle.isp_disk.specs.Moments.{image_of, slice}
use Rattle.isp_format.specs.Ranges.{page_bytes, page_of}
use Rattle.isp_format.proofs.Slices.{piece_slice}
use Rattle.isp_page.specs.InMemory.{MemState}
use Rattle.isp_page.proofs.mem_pages.MemPagesPages.read.Goals as goal

pub returns-clause-page : goal.returns-clause-page
unfolding page_of
returns-clause-page c = λ tells.
    let at : ℕ = c.args.p.0 * page_bytes in
    let all : List ℕ = c.deref.result.now in
    let size : at + page_bytes - at ≡ page_bytes = omega arith in
    let pages = ap (λ (m : MemState). m.shape.pages) c.self.view_is in
    let bytes = c.deref.ensures.value ∙ ap (λ (m : MemState). m.bytes) c.self.view_is in
    let fits : at + page_bytes ≤ length all = omega (arith, c.self.invariant.0, pages, c.requires, ap (λ (l : List ℕ). length l) c.deref.ensures.value) in
    c.copy_from_slice.ensures.after
    ∙ ap (λ (n : ℕ). take n (drop at all)) size
    ∙ piece_slice all at page_bytes fits
    ∙ ap (λ (l : List ℕ). slice (image_of l) at page_bytes) bytes
