use Rattle.std.proofs.Common.{rules, ◌≡◌, ℕ, suc, ◌-◌, ◌<◌, ℤ, length, sym, ◌∙◌, ap, subst, arith}
use Rattle.std.specs.Int.{w64}
use Rattle.std.proofs.lemmas.Int.{to_z-of_z}
use Rattle.isp_format.specs.Inner.{IsInnerPage}
use Rattle.isp_format.specs.Ranges.{Contents, page_of}
use Rattle.isp_page.specs.State.{FileShape}
use Rattle.isp_levels.specs.Inners.{OnWay, page_in_name}
use Rattle.isp_levels.specs.Levels.{pick}
use Rattle.isp_cells.proofs.CellLaws.{number_some}
use Rattle.isp_levels.proofs.WayLaws.{root_says, way_begins, way_ends, way_on}
use Rattle.isp_levels.proofs.walk.leaf_for.Goals as goal

pub returns-in_err-height-clause-sound : goal.returns-in_err-height-clause-sound
returns-in_err-height-clause-sound g c tells table levels leaves is =
    let sound = c.in_err-height.ensures.sound tells (length levels) (root_says _ _ table c.args.root.0 levels leaves is) in
    search (rules, sound, c.from_residual.ensures)

pub down-init : goal.down-init
down-init g c =
    let r = c.in_ok-height.ensures.reads in
    record {
      kept = search rules;
      contents = r.contents;
      mini = r.mini;
      inside = c.requires.page;
      way = λ tells table levels leaves is.
          subst (λ (k : ℤ). OnWay (g.P.Pages.shape c.args.pages.now).pages (g.P.Pages.contents c.args.pages.now) table leaves k c.args.root.0 c.in_ok-height.height) (sym (to_z-of_z w64 c.args.key c.ranges.key))
          (way_begins _ _ table c.args.root.0 levels leaves c.args.key c.in_ok-height.height c.ranges.key is (c.in_ok-height.ensures.height tells));
    }

pub down-preserved : goal.down-preserved
down-preserved g c =
    let r = c.in_ok-at.ensures.reads in
    let positive = c.down-test.true in
    record {
      kept = search rules;
      contents = λ tells. r.contents tells ∙ c.down.invariant.contents tells;
      mini = r.mini ∙ c.down.invariant.mini;
      inside = subst (λ (s : FileShape). c.in_ok-at.at.0 < s.pages) c.down.invariant.kept.keeps.same_shape c.in_ok-at.ensures.inside;
      way = λ tells table levels leaves is.
          let pages = (g.P.Pages.shape c.args.pages.now).pages in
          let contents = g.P.Pages.contents c.args.pages.now in
          let at = c.down.at.0 in
          let fewer : ℕ = c.down.height - 1 in
          let key = to_z-of_z w64 c.args.key c.ranges.key in
          let more : c.down.height ≡ suc fewer = omega (arith, positive) in
          let here : OnWay pages contents table leaves c.args.key at c.down.height = subst (λ (k : ℤ). OnWay pages contents table leaves k at c.down.height) key (c.down.invariant.way tells table levels leaves is) in
          let step = way_on pages contents table leaves c.args.key at fewer (subst (λ (n : ℕ). OnWay pages contents table leaves c.args.key at n) more here) in
          let read : IsInnerPage (page_of (g.P.Pages.contents c.down.pages) at) table at (suc fewer) step.names = subst (λ (now : Contents). IsInnerPage (page_of now at) table at (suc fewer) step.names) (sym (c.down.invariant.contents tells)) step.stands in
          let stands : IsInnerPage (page_of (g.P.Pages.contents c.down.pages) at) table at c.down.height step.names = subst (λ (n : ℕ). IsInnerPage (page_of (g.P.Pages.contents c.down.pages) at) table at n step.names) (sym more) read in
          let child = c.in_ok-at.ensures.child tells table step.names stands in
          let same : step.child ≡ c.in_ok-at.at.0 = number_some c.in_ok-at.at.0 step.child (page_in_name (pick c.args.key step.names)) (ap (λ (k : ℤ). page_in_name (pick k step.names)) (sym key) ∙ child) step.picked in
          let next : OnWay pages contents table leaves c.args.key c.in_ok-at.at.0 fewer = subst (λ (p : ℕ). OnWay pages contents table leaves c.args.key p fewer) same step.next in
          subst (λ (k : ℤ). OnWay pages contents table leaves k c.in_ok-at.at.0 fewer) (sym key) next;
    }

pub returns-in_err-at-clause-sound : goal.returns-in_err-at-clause-sound
returns-in_err-at-clause-sound g c tells table levels leaves is =
    let positive = c.down-test.true in
    let pages = (g.P.Pages.shape c.args.pages.now).pages in
    let contents = g.P.Pages.contents c.args.pages.now in
    let at = c.down.at.0 in
    let fewer : ℕ = c.down.height - 1 in
    let key = to_z-of_z w64 c.args.key c.ranges.key in
    let more : c.down.height ≡ suc fewer = omega (arith, positive) in
    let here : OnWay pages contents table leaves c.args.key at c.down.height = subst (λ (k : ℤ). OnWay pages contents table leaves k at c.down.height) key (c.down.invariant.way tells table levels leaves is) in
    let step = way_on pages contents table leaves c.args.key at fewer (subst (λ (n : ℕ). OnWay pages contents table leaves c.args.key at n) more here) in
    let read : IsInnerPage (page_of (g.P.Pages.contents c.down.pages) at) table at (suc fewer) step.names = subst (λ (now : Contents). IsInnerPage (page_of now at) table at (suc fewer) step.names) (sym (c.down.invariant.contents tells)) step.stands in
    let stands : IsInnerPage (page_of (g.P.Pages.contents c.down.pages) at) table at c.down.height step.names = subst (λ (n : ℕ). IsInnerPage (page_of (g.P.Pages.contents c.down.pages) at) table at n step.names) (sym more) read in
    let picked = ap (λ (k : ℤ). page_in_name (pick k step.names)) key ∙ step.picked in
    let inside = subst (λ (s : FileShape). step.child < s.pages) (sym c.down.invariant.kept.keeps.same_shape) step.inside in
    let sound = c.in_err-at.ensures.sound tells table step.child step.names stands picked inside in
    search (rules, sound, c.from_residual-in_err-at.ensures)

pub returns-clause-leaf : goal.returns-clause-leaf
returns-clause-leaf g c tells table levels leaves is =
    let pages = (g.P.Pages.shape c.args.pages.now).pages in
    let contents = g.P.Pages.contents c.args.pages.now in
    let key = to_z-of_z w64 c.args.key c.ranges.key in
    let behind = c.down-test.false in
    let here : OnWay pages contents table leaves c.args.key c.down.at.0 c.down.height = subst (λ (k : ℤ). OnWay pages contents table leaves k c.down.at.0 c.down.height) key (c.down.invariant.way tells table levels leaves is) in
    way_ends pages contents table leaves c.args.key c.down.at.0 c.down.height (omega (arith, behind)) here
