use Rattle.std.proofs.Common.{rules, ◌≡◌, ℕ, ◌+◌, ◌<◌, ◌≤◌, refl, sym, ◌∙◌, ap, subst, arith}
use Rattle.isp_base.specs.declared.page_no.PageNo.{PageNo}
use Rattle.isp_format.specs.Ranges.{page_of}
use Rattle.isp_format.specs.Undo.{IsUndoPage}
use Rattle.isp_undo_walks.specs.Chains.{first_page}
use Rattle.isp_undo_walks.specs.Walks.{IsOn}
use Rattle.isp_undo_walks.proofs.WalkLaws.{on_next, on_short, step_on_next}
use Rattle.isp_undo_walks.proofs.counting.step_on.Goals as goal

pub returns-then-place-count-clause-sound : goal.returns-then-place-count-clause-sound
returns-then-place-count-clause-sound g c tells way is on other =
    let short = on_short _ _ way c.args.place is on in
    let over = c.if-place-count.true in
    let count = c.pages-count.ensures.count in
    absurd (omega (arith, short, over, count))

pub returns-in_err-page-clause-sound : goal.returns-in_err-page-clause-sound
returns-in_err-page-clause-sound g c tells way is on other =
    let s = step_on_next _ _ way c.args.place is on other in
    let count = c.pages-count.ensures.count in
    absurd (c.in_err-page.ensures.refused (subst (λ (n : ℕ). 16 ≤ n) (sym s.next) s.inside.0) (subst (λ (n : ℕ). n < c.pages-count.result) (sym s.next) (subst (λ (n : ℕ). s.q.page < n) (sym count) s.inside.1)))

pub returns-in_err-next-clause-sound : goal.returns-in_err-next-clause-sound
returns-in_err-next-clause-sound g c tells way is on other =
    let s = step_on_next _ _ way c.args.place is on other in
    let page : c.in_ok-page.page.0 ≡ s.q.page = ap (λ (p : PageNo). p.0) c.in_ok-page.ensures.same ∙ s.next in
    let stands = subst (λ (n : ℕ). IsUndoPage (page_of (g.P.Pages.contents c.args.pages.now) n) n c.args.place.page.0 (first_page 0 s.rest) s.q.images) (sym page) s.stands in
    let sound = c.in_err-next.ensures.sound tells (first_page 0 s.rest) s.q.images stands in
    search (rules, sound, c.from_residual-in_err-next.ensures)

pub returns-clause-next : goal.returns-clause-next
returns-clause-next g c tells way is on other =
    let s = step_on_next _ _ way c.args.place is on other in
    let same = c.in_ok-page.ensures.same in
    let there = on_next _ _ way c.args.place c.in_ok-next.next _ s refl (λ after images stands. c.in_ok-next.ensures.next tells after images (subst (λ (p : PageNo). IsUndoPage (page_of (g.P.Pages.contents c.args.pages.now) p.0) p.0 c.args.place.page.0 after images) (sym same) stands)) in
    subst (λ (p : PageNo). IsOn way (record { page = p; next = c.in_ok-next.next; passed = c.args.place.passed + 1 })) (sym same) there
