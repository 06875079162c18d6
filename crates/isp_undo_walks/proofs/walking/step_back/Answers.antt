use Rattle.std.proofs.Common.{rules, ◌≡◌, ℕ, ◌<◌, ◌≤◌, List, refl, sym, ◌∙◌, ap, subst, arith}
use Rattle.isp_base.specs.declared.page_no.PageNo.{PageNo}
use Rattle.isp_format.specs.Header.{Header, header_of}
use Rattle.isp_format.specs.Ranges.{page_of}
use Rattle.isp_format.specs.Undo.{IsUndoPage}
use Rattle.isp_undo_walks.specs.Chains.{last_page}
use Rattle.isp_undo_walks.proofs.WalkLaws.{back_on, back_short, step_back_on}
use Rattle.isp_undo_walks.proofs.walking.step_back.Goals as goal

pub returns-then-stop-count-clause-sound : goal.returns-then-stop-count-clause-sound
returns-then-stop-count-clause-sound g c tells bytes behind way is back other =
    let short = back_short _ _ behind way c.args.stop is back in
    let over = c.if-stop-count.true in
    let count = c.pages-count.ensures.count in
    absurd (omega (arith, short, over, count))

pub returns-in_err-page-clause-sound : goal.returns-in_err-page-clause-sound
returns-in_err-page-clause-sound g c tells bytes behind way is back other =
    let s = step_back_on _ _ behind way c.args.stop is back other in
    let prev : c.head.result.prev.0 ≡ s.q.page = ap (λ (h : Header). h.prev) c.head.ensures ∙ ap (λ (b : List ℕ). (header_of b).prev) bytes ∙ s.prev in
    let count = c.pages-count.ensures.count in
    absurd (c.in_err-page.ensures.refused (subst (λ (n : ℕ). 16 ≤ n) (sym prev) s.inside.0) (subst (λ (n : ℕ). n < c.pages-count.result) (sym prev) (subst (λ (n : ℕ). s.q.page < n) (sym count) s.inside.1)))

pub returns-in_err-used-clause-sound : goal.returns-in_err-used-clause-sound
returns-in_err-used-clause-sound g c tells bytes behind way is back other =
    let s = step_back_on _ _ behind way c.args.stop is back other in
    let prev : c.head.result.prev.0 ≡ s.q.page = ap (λ (h : Header). h.prev) c.head.ensures ∙ ap (λ (b : List ℕ). (header_of b).prev) bytes ∙ s.prev in
    let page : c.in_ok-page.page.0 ≡ s.q.page = ap (λ (p : PageNo). p.0) c.in_ok-page.ensures.same ∙ prev in
    let stands = subst (λ (n : ℕ). IsUndoPage (page_of (g.P.Pages.contents c.args.pages.now) n) n (last_page 0 s.front) c.args.stop.page.0 s.q.images) (sym page) s.stands in
    let sound = c.in_err-used.ensures.sound tells (last_page 0 s.front) s.q.images stands in
    search (rules, sound, c.from_residual-in_err-used.ensures)

pub returns-clause-back : goal.returns-clause-back
returns-clause-back g c tells bytes behind way is back empty other =
    let s = step_back_on _ _ behind way c.args.stop is back other in
    let page : c.in_ok-page.page.0 ≡ (header_of (page_of (g.P.Pages.contents c.args.pages.now) c.args.stop.page.0)).prev = ap (λ (p : PageNo). p.0) c.in_ok-page.ensures.same ∙ ap (λ (h : Header). h.prev) c.head.ensures ∙ ap (λ (b : List ℕ). (header_of b).prev) bytes in
    back_on _ _ way c.args.stop c.in_ok-page.page c.in_ok-used.used _ s empty page refl (λ before images stands. c.in_ok-used.ensures.used tells before images stands)
