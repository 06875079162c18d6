use Rattle.std.proofs.Common.{ℕ, ◌+◌, sym, ap, subst}
use Rattle.isp_page.specs.State.{FileShape}
use Rattle.isp_space.specs.Spaces.{IsSpace, Space}
use Rattle.isp_clustered.proofs.ChangeLaws.{space_beside}
use Rattle.isp_clustered.proofs.writing.count_and_replace.Goals as goal

pub returns-clause-space : goal.returns-clause-space
returns-clause-space g c tells s is beside =
    let mid = g.P.Pages.contents c.add_bytes.new.pages in
    let new = g.P.Pages.contents c.replace.new.pages in
    let t : Space = record s { bytes = s.bytes + c.args.bytes } in
    let r = c.in_ok-replace.ensures in
    let added : IsSpace (g.P.Pages.shape c.add_bytes.new.pages).pages mid t = c.in_ok-add_bytes.ensures.added tells s is in
    let shape = ap (λ (shape : FileShape). shape.pages) r.kept.keeps.same_shape in
    subst (λ (n : ℕ). IsSpace n new t) (sym shape) (space_beside _ mid new c.args.page.0 t (r.others tells) beside added)
