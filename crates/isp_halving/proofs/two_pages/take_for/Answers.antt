use Rattle.std.proofs.Common.{◌∙◌, ap}
use Rattle.isp_format.specs.Ranges.{Contents, page_of}
use Rattle.isp_page.specs.State.{FileShape}
use Rattle.isp_space.proofs.SpaceLaws.{space_behind}
use Rattle.isp_space.specs.Spaces.{taken}
use Rattle.isp_halving.proofs.HalvingLaws.{page_stays, taken_differs}
use Rattle.isp_halving.proofs.two_pages.take_for.Goals as goal

pub returns-clause-taken : goal.returns-clause-taken
returns-clause-taken g c tells s is out some =
    let page = c.args.page.0 in
    let t = c.in_ok-right.ensures in
    let r = c.in_ok-read.ensures in
    let right = c.in_ok-right.right.0 in
    let next = t.page tells s is some in
    let stays = page_stays s (g.P.Pages.contents c.args.pages.now) (g.P.Pages.contents c.take_page.new.pages) page right out next (t.others tells) in
    record {
      is_next = next;
      is_space = space_behind _ _ _ _ (taken s) (ap (λ (shape : FileShape). shape.pages) r.kept.keeps.same_shape) (r.contents tells) (t.taken tells s is some);
      differs = taken_differs s page right out next;
      read = r.page tells ∙ stays;
      stays = ap (λ (now : Contents). page_of now page) (r.contents tells) ∙ stays;
    }
