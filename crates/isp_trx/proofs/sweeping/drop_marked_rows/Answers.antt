use Rattle.std.proofs.Common.{refl, ap, arith}
use Rattle.isp_page.specs.State.{FileShape}
use Rattle.isp_trx.specs.Roots.{numbers_of}
use Rattle.isp_trx.specs.Writes.{SweepsSome}
use Rattle.isp_trx.proofs.LoopLaws.{next_can, next_some, next_swept}
use Rattle.isp_trx.proofs.MoreMakes.{more_done, more_failed}
use Rattle.isp_trx.proofs.sweeping.drop_marked_rows.Goals as goal

pub returns-in-Err-clause-made : goal.returns-in-Err-clause-made
returns-in-Err-clause-made g c =
    let pages = (g.P.Pages.shape c.args.pages.now).pages in
    let old = g.P.Pages.contents c.args.pages.now in
    let roots = numbers_of c.args.roots.now in
    let keys = c.args.keys.now in
    let shape = ap (λ (s : FileShape). s.pages) c.loop-at.invariant.0.keeps.same_shape in
    let less = c.loop-at-test.true in
    more_failed g.P.Pages (SweepsSome pages old roots keys) _ c.args.pages.now c.loop-at.pages c.drop_key.new.pages
    (λ tells contents swept. next_some pages _ old _ roots keys c.loop-at.at-index _ _ shape (omega (arith, less)) refl (c.loop-at.invariant.2 tells) contents swept) c.loop-at.invariant.0 c.in-Err.fault c.in-Err.ensures.made

pub returns-in-Err-clause-sound : goal.returns-in-Err-clause-sound
returns-in-Err-clause-sound g c tells chains d can =
    let pages = (g.P.Pages.shape c.args.pages.now).pages in
    let old = g.P.Pages.contents c.args.pages.now in
    let roots = numbers_of c.args.roots.now in
    let keys = c.args.keys.now in
    let shape = ap (λ (s : FileShape). s.pages) c.loop-at.invariant.0.keeps.same_shape in
    let less = c.loop-at-test.true in
    let next = next_can pages _ old _ roots keys c.loop-at.at-index _ _ shape (omega (arith, less)) refl (c.loop-at.invariant.2 tells) chains d can in
    c.in-Err.ensures.sound tells chains next.0 next.1

pub loop-at-preserved : goal.loop-at-preserved
loop-at-preserved g c =
    let pages = (g.P.Pages.shape c.args.pages.now).pages in
    let old = g.P.Pages.contents c.args.pages.now in
    let roots = numbers_of c.args.roots.now in
    let keys = c.args.keys.now in
    let shape = ap (λ (s : FileShape). s.pages) c.loop-at.invariant.0.keeps.same_shape in
    let less = c.loop-at-test.true in (
      more_done g.P.Pages (SweepsSome pages old roots keys) _ c.args.pages.now c.loop-at.pages c.drop_key.new.pages
          (λ tells contents swept. next_some pages _ old _ roots keys c.loop-at.at-index _ _ shape (omega (arith, less)) refl (c.loop-at.invariant.2 tells) contents swept) c.loop-at.invariant.0 tt tt c.in-Ok.ensures.made,
      c.in-Ok.ensures.mini,
      λ tells. next_swept pages _ old _ roots keys c.loop-at.at-index _ _ shape (omega (arith, less)) refl (c.loop-at.invariant.2 tells) _ (c.in-Ok.ensures.swept tells),
    )
