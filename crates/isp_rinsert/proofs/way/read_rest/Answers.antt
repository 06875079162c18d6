use Rattle.std.proofs.Common.{rules, ◌≡◌, ◌+◌, ◌<◌, suc, List, drop, get_or, refl, sym, ◌∙◌, ap, subst, arith}
use Rattle.std.specs.Prelude.{Err}
use Rattle.std.proofs.lemmas.Result.{err_from_is_err_and}
use Rattle.isp_base.specs.declared.page_no.PageNo.{PageNo}
use Rattle.isp_format.specs.Header.{header_of}
use Rattle.isp_format.specs.Ranges.{Contents, page_of}
use Rattle.isp_page.specs.State.{FileShape}
use Rattle.isp_rtree.specs.Paths.{numbers_of}
use Rattle.isp_rtree.specs.Trees.{IsPageOf}
use Rattle.isp_rtree.proofs.PathLaws.{Below, ahead, none_ahead}
use Rattle.isp_rinsert.proofs.WayLaws.{goes_none, goes_on, one_more, reads_on, walks_all, walks_leaf, walks_next, walks_none, walks_on}
use Rattle.isp_rinsert.proofs.way.read_rest.Goals as goal

abbrev none : PageNo
none = record { 0 = 0 }

pub loop-next-init : goal.loop-next-init
loop-next-init g c = record {
  kept = search rules;
  contents = λ tells. refl;
  mini = refl;
  inside = c.requires.from;
  count = omega arith;
  room = refl;
  goes = goes_none (g.P.Pages.shape c.args.pages.now).pages (header_of c.args.page.now.bytes).level c.args.way.now.items;
  walks = λ tells tree at leads. walks_none (g.P.Pages.contents c.args.pages.now) (g.P.Pages.shape c.args.pages.now) c.args.owner tree c.args.from.0 c.args.page.now.bytes (numbers_of c.args.rest.now) c.args.way.now.items at leads;
}

pub returns-in_err-p-clause-reads : goal.returns-in_err-p-clause-reads
returns-in_err-p-clause-reads g c =
    let inv = c.loop-next.invariant in
    let p = err_from_is_err_and c.from_residual.result c.from_residual.ensures.1 in
    reads_on g.P.Pages c.args.pages.now c.loop-next.pages c.read_next.new.pages c.in_err-p.field-0.0 c.from_residual.result (p.1 ∙ ap Err p.2) inv.kept inv.mini inv.contents c.in_err-p.ensures.reads

pub returns-in_err-p-clause-sound : goal.returns-in_err-p-clause-sound
returns-in_err-p-clause-sound g c tells tree at leads =
    let inv = c.loop-next.invariant in
    let rest : List PageNo = c.args.rest.now in
    let k = c.loop-next.next-index in
    let next : PageNo = get_or rest k none in
    let old = g.P.Pages.contents c.args.pages.now in
    let shape = g.P.Pages.shape c.args.pages.now in
    let w = inv.walks tells tree at leads in
    let below : Below old shape c.args.owner tree c.loop-next.page.bytes next.0 = walks_next old shape c.args.owner tree at.is c.loop-next.at.0 next.0 c.loop-next.page.bytes (numbers_of (drop k rest)) (numbers_of (drop (k + 1) rest)) c.args.way.now.items c.loop-next.way.items (ahead rest k none c.loop-next-test.true) w in
    let page : IsPageOf (g.P.Pages.shape c.loop-next.pages).pages c.args.owner next.0 (page_of (g.P.Pages.contents c.loop-next.pages) next.0) = subst (λ (s : FileShape). IsPageOf s.pages c.args.owner next.0 (page_of (g.P.Pages.contents c.loop-next.pages) next.0)) (sym inv.kept.keeps.same_shape) (subst (λ (x : Contents). IsPageOf shape.pages c.args.owner next.0 (page_of x next.0)) (sym (inv.contents tells)) below.page) in
    let inside : next.0 < (g.P.Pages.shape c.loop-next.pages).pages = subst (λ (s : FileShape). next.0 < s.pages) (sym inv.kept.keeps.same_shape) (at.is.inside next.0 below.node below.there).1 in
    let level : (header_of c.loop-next.page.bytes).level ≡ suc (header_of (page_of (g.P.Pages.contents c.loop-next.pages) next.0)).level = below.level ∙ ap (λ (x : Contents). suc (header_of (page_of x next.0)).level) (sym (inv.contents tells)) in
    let sound = c.in_err-p.ensures.sound tells page inside level in
    search (rules, sound, c.from_residual.ensures)

pub push_reserved-requires : goal.push_reserved-requires
push_reserved-requires g c = omega (arith, c.loop-next.invariant.count, c.loop-next.invariant.room, c.requires.room, c.loop-next-test.true)

pub loop-next-preserved : goal.loop-next-preserved
loop-next-preserved g c =
    let w = c.in_ok-p.ensures in
    let inv = c.loop-next.invariant in
    let rest : List PageNo = c.args.rest.now in
    let k = c.loop-next.next-index in
    let next : PageNo = get_or rest k none in
    let pushed = c.push_reserved.ensures.items in
    let in_file : next.0 < (g.P.Pages.shape c.args.pages.now).pages = subst (λ (s : FileShape). next.0 < s.pages) inv.kept.keeps.same_shape w.inside in
    record {
      kept = one_more g.P.Pages c.args.pages.now c.loop-next.pages c.read_next.new.pages c.in_ok-p.p inv.kept w.reads.kept;
      contents = λ tells. w.reads.contents tells ∙ inv.contents tells;
      mini = w.reads.mini ∙ inv.mini;
      inside = in_file;
      count = omega (arith, inv.count, c.push_reserved.ensures.len);
      room = c.push_reserved.ensures.capacity ∙ inv.room;
      goes = goes_on (g.P.Pages.shape c.args.pages.now).pages (header_of c.args.page.now.bytes).level (header_of c.loop-next.page.bytes).level (header_of c.read_next.new.page.bytes).level rest k none c.args.way.now.items c.loop-next.way.items c.push_reserved.new.self.items c.read_next.new.page.bytes c.in_ok-p.p c.loop-next-test.true w.level in_file refl w.read pushed inv.goes;
      walks = λ tells tree at leads.
          walks_on (g.P.Pages.contents c.args.pages.now) (g.P.Pages.shape c.args.pages.now) c.args.owner tree at.is c.loop-next.at.0 next c.loop-next.page.bytes c.read_next.new.page.bytes (numbers_of (drop k rest)) (numbers_of (drop (k + 1) rest)) c.args.way.now.items c.loop-next.way.items c.push_reserved.new.self.items c.in_ok-p.p
          (ahead rest k none c.loop-next-test.true) (w.page tells ∙ ap (λ (x : Contents). page_of x next.0) (inv.contents tells)) w.read pushed (inv.walks tells tree at leads);
    }

pub returns-in_err-ends_on_leaf-clause-sound : goal.returns-in_err-ends_on_leaf-clause-sound
returns-in_err-ends_on_leaf-clause-sound g c tells tree at leads =
    let rest : List PageNo = c.args.rest.now in
    let k = c.loop-next.next-index in
    let w = c.loop-next.invariant.walks tells tree at leads in
    let leaf = walks_leaf (g.P.Pages.contents c.args.pages.now) (g.P.Pages.shape c.args.pages.now) c.args.owner tree at.is c.loop-next.at.0 c.loop-next.page.bytes (numbers_of (drop k rest)) c.args.way.now.items c.loop-next.way.items (none_ahead rest k c.loop-next-test.false) w in
    let sound = c.in_err-ends_on_leaf.ensures.sound leaf in
    search (rules, sound, c.from_residual-in_err-ends_on_leaf.ensures)

pub returns-clause-read : goal.returns-clause-read
returns-clause-read g c tells tree at leads =
    walks_all (g.P.Pages.contents c.args.pages.now) tree c.loop-next.at.0 c.loop-next.page.bytes (numbers_of (drop c.loop-next.next-index c.args.rest.now)) c.args.way.now.items c.loop-next.way.items (c.loop-next.invariant.walks tells tree at leads)
