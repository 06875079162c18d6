use Rattle.std.proofs.Common.{rules, ◌≤◌, sym, ◌∙◌, ap, subst, arith}
use Rattle.isp_format.specs.Undo.{Slot as Ends}
use Rattle.isp_page.specs.State.{FileShape}
use Rattle.isp_undo_pages.specs.Directory.{ends_in}
use Rattle.isp_undo_walks.proofs.WalkLaws.{first_stands, on_begins, on_ends, some_pages, way_now}
use Rattle.isp_undo_walks.proofs.counting.count_pages.Goals as goal

pub returns-in_err-next-clause-sound : goal.returns-in_err-next-clause-sound
returns-in_err-next-clause-sound g c tells way is ends =
    let f = first_stands _ _ way c.args.ends.first.0 is (some_pages way (ends_in c.args.ends) ends c.requires.ends.first_from) (sym (ap (λ (e : Ends). e.0) ends)) in
    let sound = c.in_err-next.ensures.sound tells f.0 f.1 f.2 in
    search (rules, sound, c.from_residual.ensures)

pub on-init : goal.on-init
on-init g c =
    let u = c.in_ok-next.ensures in
    record {
      kept = search rules;
      contents = u.reads.contents;
      mini = u.reads.mini;
      few = omega arith;
      on = λ tells way is ends. on_begins _ _ way c.args.ends.first c.in_ok-next.next is (some_pages way (ends_in c.args.ends) ends c.requires.ends.first_from) (sym (ap (λ (e : Ends). e.0) ends)) (λ after images stands. u.next tells after images stands);
    }

pub on-preserved : goal.on-preserved
on-preserved g c =
    let b = c.on.invariant in
    let r = c.in_ok-place.ensures in
    let same = b.kept.keeps.same_shape in
    record {
      kept = search rules;
      contents = λ tells. r.reads.contents tells ∙ b.contents tells;
      mini = r.reads.mini ∙ b.mini;
      few = subst (λ (s : FileShape). c.in_ok-place.place.passed ≤ s.pages) same r.on.1;
      on = λ tells way is ends.
          r.next tells way (way_now _ _ 0 _ _ way (ap (λ (s : FileShape). s.pages) same) (b.contents tells) is) (b.on tells way is ends)
          (λ at. c.is_before.ensures.before c.on-test.true (sym at ∙ sym (ap (λ (e : Ends). e.1) ends)));
    }

pub returns-in_err-place-clause-sound : goal.returns-in_err-place-clause-sound
returns-in_err-place-clause-sound g c tells way is ends =
    let b = c.on.invariant in
    let same = b.kept.keeps.same_shape in
    let sound = c.in_err-place.ensures.sound tells way (way_now _ _ 0 _ _ way (ap (λ (s : FileShape). s.pages) same) (b.contents tells) is) (b.on tells way is ends)
    (λ at. c.is_before.ensures.before c.on-test.true (sym at ∙ sym (ap (λ (e : Ends). e.1) ends))) in
    search (rules, sound, c.from_residual-in_err-place.ensures)

pub returns-then-place-eq0-clause-count : goal.returns-then-place-eq0-clause-count
returns-then-place-eq0-clause-count g c tells way is ends =
    (on_ends _ _ way c.on.place is (c.on.invariant.on tells way is ends) (sym (ap (λ (e : Ends). e.1) ends) ∙ sym (c.is_before.ensures.at c.on-test.false))).1

pub returns-else-place-eq0-clause-sound : goal.returns-else-place-eq0-clause-sound
returns-else-place-eq0-clause-sound g c tells way is ends =
    absurd (c.if-place-eq0.false (on_ends _ _ way c.on.place is (c.on.invariant.on tells way is ends) (sym (ap (λ (e : Ends). e.1) ends) ∙ sym (c.is_before.ensures.at c.on-test.false))).0)
