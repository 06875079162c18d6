use Rattle.std.proofs.Common.{rules, ℕ, [], ◌∷◌, ◌++◌, refl, sym, ◌∙◌, ap, subst, arith}
use Rattle.isp_page.specs.State.{FileShape}
use Rattle.isp_space.proofs.ChangesLaws.{among_two, changes_on, changes_two}
use Rattle.isp_space.specs.Spaces.{IsSpace, next_free, taken}
use Rattle.isp_undo_pages.specs.Entries.{image_in}
use Rattle.isp_undo.specs.Calls.{Restacks}
use Rattle.isp_undo.specs.Chains.{pushed}
use Rattle.isp_undo.proofs.PushLaws.{begun_first}
use Rattle.isp_undo.proofs.pushing.begin.Goals as goal

pub returns-clause-changes : goal.returns-clause-changes
returns-clause-changes g c =
    let p = c.in_ok-p.p.0 in
    let take = c.in_ok-p.ensures in
    let make = c.in_ok-make_page.ensures.changes in
    let write = c.in_ok-write_slot.ensures.changes in
    record {
      kept = search rules;
      changes = record {
        list = (0 ∷ p ∷ p ∷ []) ++ 1 ∷ [];
        few = omega arith;
        changes = changes_on g.P.Pages (0 ∷ p ∷ p ∷ []) (1 ∷ []) _ _ _ (changes_on g.P.Pages (0 ∷ p ∷ []) (p ∷ []) _ _ _ (changes_two g.P.Pages p _ _ take.grown take.others) make.changes) write.changes;
      };
      names = tt;
    }

pub returns-clause-pushed : goal.returns-clause-pushed
returns-clause-pushed g c tells dir slots s can =
    let pages = λ (shape : FileShape). shape.pages in
    let p = c.in_ok-p.p.0 in
    let old = g.P.Pages.contents c.args.pages.now in
    let mid = g.P.Pages.contents c.take_page.new.pages in
    let new = g.P.Pages.contents c.write_slot.new.pages in
    let take = c.in_ok-p.ensures in
    let make = c.in_ok-make_page.ensures in
    let write = c.in_ok-write_slot.ensures in
    let shape_take = ap pages take.kept.keeps.same_shape in
    let shape = ap pages write.changes.kept.keeps.same_shape ∙ ap pages make.changes.kept.keeps.same_shape ∙ shape_take in
    let space = subst (λ (n : ℕ). IsSpace n mid (taken s)) shape_take (take.taken tells s can.stack.space (can.free refl)) in
    let done = begun_first _ old mid _ new slots c.args.slot p s (image_in c.args.old.now) c.args.directory.now.bytes c.requires.slot (take.page tells s can.stack.space (can.free refl)) can.stack space
    (among_two p old mid (take.others tells)) (make.changes.changes.others tells) (write.changes.changes.others tells) (make.page tells) dir (λ same is. write.slots tells same slots is) in
    subst (λ (n : ℕ). Restacks n old new slots c.args.slot [] (pushed (next_free s) (image_in c.args.old.now) []) (taken s) (next_free s ∷ [])) (sym shape) done
