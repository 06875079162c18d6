use Rattle.std.proofs.Common.{rules, ℕ, ◌<◌, ◌≤◌, [], ◌∷◌, sym, ◌∙◌, ap, subst, arith}
use Rattle.isp_page.specs.State.{FileShape}
use Rattle.isp_space.proofs.ChangesLaws.{among_two, changes_on, changes_two}
use Rattle.isp_rtree.proofs.MakeLaws.{keeps_two, made_space, made_tree, next_from}
use Rattle.isp_rtree.proofs.making.create.Goals as goal

pub returns-clause-made : goal.returns-clause-made
returns-clause-made g c tells s is some =
    let t = c.in_ok-p.ensures in
    let m = c.in_ok-make_leaf.ensures in
    let p = c.in_ok-p.p.0 in
    let old = g.P.Pages.contents c.args.pages.now in
    let mid = g.P.Pages.contents c.take_page.new.pages in
    let new = g.P.Pages.contents c.make_leaf.new.pages in
    let pages : FileShape → ℕ = λ shape. shape.pages in
    let shape = m.changes.kept.keeps.same_shape ∙ t.kept.keeps.same_shape in
    let next = t.page tells s is some in
    let from : 16 ≤ p = subst (λ (n : ℕ). 16 ≤ n) (sym next) (next_from s.free s.fresh is.inside is.fresh_from) in
    record {
      is_next = next;
      is_tree = made_tree new (g.P.Pages.shape c.make_leaf.new.pages) c.args.owner p (m.header tells) from (subst (λ (sh : FileShape). p < sh.pages) (sym shape) t.inside);
      is_space = made_space (g.P.Pages.shape c.args.pages.now).pages (g.P.Pages.shape c.make_leaf.new.pages).pages old mid new p s is some next (ap pages shape) (t.others tells) (m.changes.changes.others tells) (t.taken tells s is some).says;
      others = among_two p old new (keeps_two p old mid new (t.others tells) (m.changes.changes.others tells));
    }

pub returns-clause-creates : goal.returns-clause-creates
returns-clause-creates g c =
    let t = c.in_ok-p.ensures in
    let m = c.in_ok-make_leaf.ensures in
    let p = c.in_ok-p.p.0 in
    record {
      kept = search rules;
      changes = record {
        list = 0 ∷ p ∷ p ∷ [];
        few = omega arith;
        changes = changes_on g.P.Pages (0 ∷ p ∷ []) (p ∷ []) _ _ _ (changes_two g.P.Pages p _ _ t.grown t.others) m.changes.changes;
      };
      names = tt;
      inside = t.inside;
    }
