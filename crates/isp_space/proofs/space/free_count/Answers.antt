use Rattle.std.proofs.Common.{◌∙◌, ap}
use Rattle.isp_page.specs.State.{FileShape}
use Rattle.isp_space.proofs.SpaceLaws.{sum_of}
use Rattle.isp_space.proofs.space.free_count.Goals as goal

pub returns-clause-count : goal.returns-clause-count
returns-clause-count g c tells s is =
    let said = c.in_ok-numbers.ensures.found tells s is in
    let shape = ap (λ (shape : FileShape). shape.pages) c.in_ok-numbers.ensures.kept.keeps.same_shape in
    sum_of (g.P.Pages.shape c.args.pages.now).pages c.pages.result c.in_ok-numbers.numbers.free_count c.in_ok-numbers.numbers.fresh c.capped.result (g.P.Pages.contents c.args.pages.now) s is (c.pages.ensures.count ∙ shape) c.pages.ensures.within.1 (ap (λ n. n.free_count) said) (ap (λ n. n.fresh) said) c.capped.ensures
