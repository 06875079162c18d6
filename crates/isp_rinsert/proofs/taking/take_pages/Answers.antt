use Rattle.std.proofs.Common.{rules, ◌<◌, List, ◌∷◌, length, refl, ◌∙◌, ap, subst, arith}
use Rattle.isp_base.specs.Lists.{Has}
use Rattle.isp_base.specs.declared.page_no.PageNo.{PageNo}
use Rattle.isp_page.specs.State.{FileShape}
use Rattle.isp_space.proofs.ChangesLaws.{changes_two}
use Rattle.isp_rinsert.specs.Applying.{numbers_of}
use Rattle.isp_rinsert.proofs.ChangeLaws.{changes_none}
use Rattle.isp_rinsert.proofs.TakeLaws.{all_pushed, one_more, some_free, taken_changes, taking_all, taking_none, taking_on}
use Rattle.isp_rinsert.proofs.taking.take_pages.Goals as goal

pub loop-page-init : goal.loop-page-init
loop-page-init g c = record {
  kept = search rules;
  changes = changes_none g.P.Pages (0 ∷ numbers_of c.args.news.now.items) c.args.pages.now;
  count = ap length c.requires.none;
  room = refl;
  inside = λ p h. absurd (subst (λ (l : List PageNo). Has l p) c.requires.none h);
  taken = λ tells s is free. taking_none g.P.Pages c.args.count s c.args.news.now.items c.args.pages.now c.requires.none is free;
}

pub loop-page-preserved : goal.loop-page-preserved
loop-page-preserved g c =
    let inv = c.loop-page.invariant in
    let w = c.in_ok-p.ensures in
    let pushed = c.push_reserved.ensures.items in
    let news : List PageNo = c.loop-page.news.items in
    let now : List PageNo = c.push_reserved.new.self.items in
    record {
      kept = one_more g.P.Pages c.args.pages.now c.loop-page.pages c.take_page.new.pages c.in_ok-p.p inv.kept w.kept;
      changes = taken_changes g.P.Pages news now c.in_ok-p.p c.args.pages.now c.loop-page.pages c.take_page.new.pages pushed inv.changes (changes_two g.P.Pages c.in_ok-p.p.0 c.loop-page.pages c.take_page.new.pages w.grown w.others);
      count = omega (arith, inv.count, c.push_reserved.ensures.len);
      room = c.push_reserved.ensures.capacity ∙ inv.room;
      inside = all_pushed (λ (p : PageNo). p.0 < (g.P.Pages.shape c.args.pages.now).pages) news now c.in_ok-p.p pushed inv.inside (subst (λ (s : FileShape). c.in_ok-p.p.0 < s.pages) inv.kept.keeps.same_shape w.inside);
      taken = λ tells s is free. (
          let t = inv.taken tells s is free in
          let some = some_free g.P.Pages c.args.count c.loop-page._page s news c.args.pages.now c.loop-page.pages c.loop-page-test.true t in
          taking_on g.P.Pages c.args.count c.loop-page._page s news now c.in_ok-p.p c.args.pages.now c.loop-page.pages c.take_page.new.pages c.loop-page-test.true pushed (ap (λ (x : FileShape). x.pages) w.kept.keeps.same_shape) t (w.page tells t.at t.is_space some) (w.taken tells t.at t.is_space some));
    }

pub returns-clause-taken : goal.returns-clause-taken
returns-clause-taken g c tells s is free =
    taking_all g.P.Pages c.args.count c.loop-page._page s c.loop-page.news.items c.args.pages.now c.loop-page.pages c.loop-page-test.false (c.loop-page.invariant.taken tells s is free)
