use Rattle.std.proofs.Common.{sym, ap, subst}
use Rattle.isp_format.specs.Ranges.{page_of}
use Rattle.isp_format.specs.Space.{IsSpacePage, SpacePage}
use Rattle.isp_page.specs.State.{FileShape}
use Rattle.isp_space.specs.Spaces.{IsSpace, space_page}
use Rattle.isp_space.proofs.SpaceLaws.{counted}
use Rattle.isp_space.proofs.space.write_counters.Goals as goal

pub returns-clause-space : goal.returns-clause-space
returns-clause-space g c tells s t is recounted read =
    let old = g.P.Pages.contents c.args.pages.now in
    let new = g.P.Pages.contents c.write_numbers.new.pages in
    let e = c.in_ok-write_numbers.ensures in
    let shape = ap (λ (shape : FileShape). shape.pages) e.kept.keeps.same_shape in
    let says : IsSpacePage (page_of new 0) (space_page t) = subst (λ (n : SpacePage). IsSpacePage (page_of new 0) n) recounted.says (e.says tells (space_page s) is.says read) in
    subst (λ (n : _). IsSpace n new t) (sym shape) (counted (g.P.Pages.shape c.args.pages.now).pages old new s t is (e.others tells) says recounted.free recounted.fresh)
