use Rattle.std.proofs.Common.{rules, ℕ, ◌+◌, ◌<◌, List, [], refl, sym, ◌∙◌, ap, subst}
use Rattle.isp_base.specs.declared.page_no.PageNo.{PageNo}
use Rattle.isp_format.specs.Header.{Header, header_of}
use Rattle.isp_format.specs.Ranges.{Contents, page_of}
use Rattle.isp_format.specs.Undo.{Slot as Ends}
use Rattle.isp_page.specs.State.{FileShape}
use Rattle.isp_undo.proofs.PopLaws.{before_of, can_cut_now, can_drop, drop_goes, restacks_from}
use Rattle.isp_undo_walks.proofs.WalkLaws.{way_of}
use Rattle.isp_undo.proofs.popping.drop_page.Goals as goal

pub returns-in_err-before-clause-sound : goal.returns-in_err-before-clause-sound
returns-in_err-before-clause-sound g c tells same slots chain s may =
    let prev = ap (λ (h : Header). h.prev) c.head.ensures ∙ ap (λ (b : List ℕ). (header_of b).prev) same in
    let b = before_of _ _ chain c.args.stop may.0.stopped c.head.result.prev.0 (way_of _ _ chain may.0.stack.stack.stands) may.1 prev in
    let count = c.pages-count.ensures.count in
    absurd (c.in_err-before.ensures.refused b.from (subst (λ (n : ℕ). c.head.result.prev.0 < n) (sym count) b.to))

pub returns-in_err-left-clause-sound : goal.returns-in_err-left-clause-sound
returns-in_err-left-clause-sound g c tells same slots chain s may =
    let prev = ap (λ (p : PageNo). p.0) c.in_ok-before.ensures.same ∙ ap (λ (h : Header). h.prev) c.head.ensures ∙ ap (λ (b : List ℕ). (header_of b).prev) same in
    let b = before_of _ _ chain c.args.stop may.0.stopped c.in_ok-before.before.0 (way_of _ _ chain may.0.stack.stack.stands) may.1 prev in
    let first = b.first ∙ sym (ap (λ (e : Ends). e.0) may.0.ends_are) in
    let sound = c.in_err-left.ensures.sound tells may.0.stopped.back.front b.way b.some first b.last in
    search (rules, sound, c.from_residual-in_err-left.ensures)

pub returns-in_err-shorten-clause-sound : goal.returns-in_err-shorten-clause-sound
returns-in_err-shorten-clause-sound g c tells same slots chain s may =
    let prev = ap (λ (p : PageNo). p.0) c.in_ok-before.ensures.same ∙ ap (λ (h : Header). h.prev) c.head.ensures ∙ ap (λ (b : List ℕ). (header_of b).prev) same in
    let b = before_of _ _ chain c.args.stop may.0.stopped c.in_ok-before.before.0 (way_of _ _ chain may.0.stack.stack.stands) may.1 prev in
    let first = b.first ∙ sym (ap (λ (e : Ends). e.0) may.0.ends_are) in
    let l = c.in_ok-left.ensures in
    let left = l.found tells may.0.stopped.back.front b.way b.some first b.last in
    let can = can_drop _ _ slots c.args.slot c.args.ends c.args.stop c.in_ok-left.left 64 chain s may.0 left (c.args.stop.passed + 1 + c.in_ok-left.left.passed) refl in
    let now = can_cut_now _ _ _ _ slots c.args.slot c.args.ends _ left.back.front left.back.p.images [] _ s (ap (λ (s : FileShape). s.pages) l.reads.kept.keeps.same_shape) (l.reads.contents tells) can in
    let bytes = l.page tells ∙ sym (ap (λ (contents : Contents). page_of contents c.in_ok-left.left.page.0) (l.reads.contents tells)) in
    let sound = c.in_err-shorten.ensures.sound tells bytes slots left.back.front left.back.p.images [] _ s now in
    search (rules, sound, c.from_residual-in_err-shorten.ensures)

pub returns-clause-popped : goal.returns-clause-popped
returns-clause-popped g c tells dir same slots chain s may =
    let prev = ap (λ (p : PageNo). p.0) c.in_ok-before.ensures.same ∙ ap (λ (h : Header). h.prev) c.head.ensures ∙ ap (λ (b : List ℕ). (header_of b).prev) same in
    let b = before_of _ _ chain c.args.stop may.0.stopped c.in_ok-before.before.0 (way_of _ _ chain may.0.stack.stack.stands) may.1 prev in
    let first = b.first ∙ sym (ap (λ (e : Ends). e.0) may.0.ends_are) in
    let l = c.in_ok-left.ensures in
    let contents = l.reads.contents tells in
    let left = l.found tells may.0.stopped.back.front b.way b.some first b.last in
    let can = can_drop _ _ slots c.args.slot c.args.ends c.args.stop c.in_ok-left.left 64 chain s may.0 left (c.args.stop.passed + 1 + c.in_ok-left.left.passed) refl in
    let now = can_cut_now _ _ _ _ slots c.args.slot c.args.ends _ left.back.front left.back.p.images [] _ s (ap (λ (s : FileShape). s.pages) l.reads.kept.keeps.same_shape) contents can in
    let bytes = l.page tells ∙ sym (ap (λ (contents : Contents). page_of contents c.in_ok-left.left.page.0) contents) in
    let done = c.in_ok-shorten.ensures.cut tells (dir ∙ sym (ap (λ (contents : Contents). page_of contents 1) contents)) bytes slots left.back.front left.back.p.images [] _ s now in
    drop_goes _ _ _ _ slots c.args.slot c.args.ends c.args.stop c.in_ok-left.left chain s may.0 left (restacks_from _ _ _ _ slots c.args.slot _ _ _ [] contents done)
