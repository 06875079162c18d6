use Rattle.std.proofs.Common.{rules, ◌<◌, ◌≤◌, sym, ◌∙◌, ap, subst, arith}
use Rattle.isp_format.specs.Ranges.{Contents, page_of}
use Rattle.isp_page.specs.State.{FileShape}
use Rattle.isp_undo_walks.specs.Chains.{last_page}
use Rattle.isp_undo_walks.proofs.WalkLaws.{back_begins, back_ends, way_end, way_now}
use Rattle.isp_undo_walks.proofs.walking.last_used.Goals as goal

pub returns-in_err-used-clause-sound : goal.returns-in_err-used-clause-sound
returns-in_err-used-clause-sound g c tells way is some first last =
    let e = way_end _ _ c.args.next.0 way c.args.last.0 is some last in
    let sound = c.in_err-used.ensures.sound tells (last_page 0 e.front) e.p.images e.stands in
    search (rules, sound, c.from_residual.ensures)

pub back-init : goal.back-init
back-init g c =
    let u = c.in_ok-used.ensures in
    record {
      kept = search rules;
      contents = u.reads.contents;
      mini = u.reads.mini;
      inside = c.requires.page;
      within = u.within;
      few = omega arith;
      page = u.page;
      back = λ tells way is some first last. back_begins _ _ c.args.next.0 way c.args.last c.in_ok-used.used (way_end _ _ c.args.next.0 way c.args.last.0 is some last) (λ before images stands. u.used tells before images stands);
    }

pub back-preserved : goal.back-preserved
back-preserved g c =
    let b = c.back.invariant in
    let r = c.in_ok-stop.ensures in
    let same = b.kept.keeps.same_shape in
    record {
      kept = search rules;
      contents = λ tells. r.reads.contents tells ∙ b.contents tells;
      mini = r.reads.mini ∙ b.mini;
      inside = subst (λ (s : FileShape). c.in_ok-stop.stop.page.0 < s.pages) same r.inside;
      within = r.within;
      few = subst (λ (s : FileShape). c.in_ok-stop.stop.passed ≤ s.pages) same r.on.1;
      page = λ tells. r.page tells ∙ ap (λ (contents : Contents). page_of contents c.in_ok-stop.stop.page.0) (b.contents tells);
      back = λ tells way is some first last.
          r.back tells (b.page tells ∙ sym (ap (λ (contents : Contents). page_of contents c.back.stop.page.0) (b.contents tells))) c.args.next.0 way
          (way_now _ _ c.args.next.0 _ _ way (ap (λ (s : FileShape). s.pages) same) (b.contents tells) is) (b.back tells way is some first last)
          (c.is_passed.ensures.empty c.back-test.true) (λ at. c.is_passed.ensures.other c.back-test.true (sym first ∙ at));
    }

pub returns-in_err-stop-clause-sound : goal.returns-in_err-stop-clause-sound
returns-in_err-stop-clause-sound g c tells way is some first last =
    let b = c.back.invariant in
    let same = b.kept.keeps.same_shape in
    let sound = c.in_err-stop.ensures.sound tells (b.page tells ∙ sym (ap (λ (contents : Contents). page_of contents c.back.stop.page.0) (b.contents tells))) c.args.next.0 way
    (way_now _ _ c.args.next.0 _ _ way (ap (λ (s : FileShape). s.pages) same) (b.contents tells) is) (b.back tells way is some first last) (λ at. c.is_passed.ensures.other c.back-test.true (sym first ∙ at)) in
    search (rules, sound, c.from_residual-in_err-stop.ensures)

pub returns-clause-found : goal.returns-clause-found
returns-clause-found g c tells way is some first last =
    back_ends _ _ c.args.next.0 way c.back.stop c.args.first.0 is (c.back.invariant.back tells way is some first last) first (c.is_passed.ensures.stops c.back-test.false)
