use Rattle.std.proofs.Common.{rules, [], ◌∷◌, ◌∙◌, ap, arith}
use Rattle.isp_page.specs.State.{FileShape}
use Rattle.isp_clustered.proofs.ChangeLaws.{made}
use Rattle.isp_space.proofs.ChangesLaws.{changes_on, changes_two}
use Rattle.isp_clustered.proofs.writing.create.Goals as goal

pub returns-clause-made : goal.returns-clause-made
returns-clause-made g c tells s is some =
    let t = c.in_ok-p.ensures in
    let m = c.in_ok-make_leaf.ensures in
    let pages = λ (shape : FileShape). shape.pages in
    made _ _ (g.P.Pages.contents c.args.pages.now) (g.P.Pages.contents c.take_page.new.pages) (g.P.Pages.contents c.make_leaf.new.pages) c.args.table _ s is some (t.page tells s is some) t.inside (ap pages m.changes.kept.keeps.same_shape ∙ ap pages t.kept.keeps.same_shape)
    (t.others tells) (m.changes.changes.others tells) (t.taken tells s is some).says (m.header tells)

pub returns-clause-creates : goal.returns-clause-creates
returns-clause-creates g c =
    let t = c.in_ok-p.ensures in
    let m = c.in_ok-make_leaf.ensures in
    let p = c.in_ok-p.p.0 in
    record {
      kept = search rules;
      changes = record {
        list = 0 ∷ p ∷ p ∷ [];
        few = omega arith;
        changes = changes_on g.P.Pages (0 ∷ p ∷ []) (p ∷ []) _ _ _ (changes_two g.P.Pages p _ _ t.grown t.others) m.changes.changes;
      };
      names = tt;
      inside = t.inside;
    }
