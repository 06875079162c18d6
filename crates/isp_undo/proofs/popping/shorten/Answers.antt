use Rattle.std.proofs.Common.{rules, ℕ, [], ◌∷◌, ◌++◌, sym, ap, subst}
use Rattle.isp_page.specs.State.{FileShape}
use Rattle.isp_space.specs.Giving.{with_chain}
use Rattle.isp_undo.specs.Calls.{Restacks}
use Rattle.isp_undo_walks.specs.Chains.{Chain, last_page, pages_of, undo_page}
use Rattle.isp_undo.proofs.CutLaws.{cut_alone}
use Rattle.isp_undo.proofs.PopLaws.{none_behind, some_behind}
use Rattle.isp_undo.proofs.PushLaws.{parts_of}
use Rattle.isp_undo.specs.Cutting.{CanCut}
use Rattle.isp_undo.proofs.popping.shorten.Goals as goal

pub returns-in_err-give_behind-clause-sound : goal.returns-in_err-give_behind-clause-sound
returns-in_err-give_behind-clause-sound g c tells same slots front images more rest s can =
    let r = some_behind rest c.args.stop.passed can.passed c.if-stop-eq0.false in
    let sound = c.in_err-give_behind.ensures.sound tells same slots front images more r.q r.rest s (subst (λ (rest : Chain). CanCut (g.P.Pages.shape c.args.pages.now).pages (g.P.Pages.contents c.args.pages.now) slots c.args.slot c.args.ends c.args.stop front images more rest s) r.is can) in
    search (rules, sound, c.from_residual-in_err-give_behind.ensures)

pub returns-in_ok-cut_page-clause-cut : goal.returns-in_ok-cut_page-clause-cut
returns-in_ok-cut_page-clause-cut g c tells dir same slots front images more rest s can =
    let page = c.args.stop.page.0 in
    let pages = λ (shape : FileShape). shape.pages in
    let old = g.P.Pages.contents c.args.pages.now in
    let new = g.P.Pages.contents c.cut_page.new.pages in
    let none = none_behind rest c.args.stop.passed can.passed c.if-stop-eq0.true in
    let here = subst (λ (rest : Chain). CanCut (g.P.Pages.shape c.args.pages.now).pages old slots c.args.slot c.args.ends c.args.stop front images more rest s) none can in
    let cut = c.in_ok-cut_page.ensures in
    let parts = parts_of _ old slots c.args.slot front (undo_page page (images ++ more)) [] s here.stack in
    let stands = cut.page tells same (last_page 0 front) 0 images more parts.page here.used in
    let done = cut_alone _ old new slots c.args.slot front page images more s c.requires.slot here.stack (cut.changes.changes.others tells) stands in
    subst (λ (rest : Chain). Restacks (g.P.Pages.shape c.cut_page.new.pages).pages old new slots c.args.slot (front ++ undo_page page (images ++ more) ∷ rest) (front ++ undo_page page images ∷ []) (with_chain (pages_of rest) s) []) (sym none)
    (subst (λ (n : ℕ). Restacks n old new slots c.args.slot (front ++ undo_page page (images ++ more) ∷ []) (front ++ undo_page page images ∷ []) (with_chain [] s) []) (sym (ap pages cut.changes.kept.keeps.same_shape)) done)

pub returns-in_ok-give_behind-clause-cut : goal.returns-in_ok-give_behind-clause-cut
returns-in_ok-give_behind-clause-cut g c tells dir same slots front images more rest s can =
    let page = c.args.stop.page.0 in
    let old = g.P.Pages.contents c.args.pages.now in
    let new = g.P.Pages.contents c.give_behind.new.pages in
    let r = some_behind rest c.args.stop.passed can.passed c.if-stop-eq0.false in
    let done = c.in_ok-give_behind.ensures.cut tells dir same slots front images more r.q r.rest s (subst (λ (rest : Chain). CanCut (g.P.Pages.shape c.args.pages.now).pages old slots c.args.slot c.args.ends c.args.stop front images more rest s) r.is can) in
    subst (λ (rest : Chain). Restacks (g.P.Pages.shape c.give_behind.new.pages).pages old new slots c.args.slot (front ++ undo_page page (images ++ more) ∷ rest) (front ++ undo_page page images ∷ []) (with_chain (pages_of rest) s) []) (sym r.is) done
