use Rattle.std.proofs.Common.{rules, ℕ, ◌≡◌, ◌+◌, ◌<◌, suc, List, ◌∷◌, drop, get_or, length, refl, sym, ◌∙◌, ap, subst, arith}
use Rattle.isp_base.specs.declared.page_no.PageNo.{PageNo}
use Rattle.isp_format.specs.Header.{header_of}
use Rattle.isp_format.specs.Ranges.{Contents, page_of}
use Rattle.isp_page.specs.State.{FileShape}
use Rattle.isp_rnode.specs.Nodes.{node_of}
use Rattle.isp_rtree.specs.Paths.{LeadsTo, numbers_of}
use Rattle.isp_rtree.specs.Trees.{IsPageOf}
use Rattle.isp_rtree.specs.declared.growing.Growth.{Growth}
use Rattle.isp_rtree.proofs.GrowLaws.{GrowsWith, grows_all, grows_leads, grows_none, grows_on, one_more}
use Rattle.isp_rtree.proofs.PathLaws.{Below, ahead, below_of, none_ahead}
use Rattle.isp_rtree.proofs.growing.grow_below.Goals as goal

abbrev none : PageNo
none = record { 0 = 0 }

pub loop-next-init : goal.loop-next-init
loop-next-init g c = record {
  kept = search rules;
  contents = λ tells. refl;
  mini = refl;
  inside = c.requires.from;
  is = c.requires.is;
  count = ap length c.requires.none;
  room = refl;
  way = λ tells tree at path. record {
    node = at.node;
    there = at.there;
    read = at.read;
    path = path;
    more = subst (λ (grown : List Growth). GrowsWith tree c.args.b.now (c.args.from.0 ∷ numbers_of c.args.rest.now) (c.args.from.0 ∷ numbers_of c.args.rest.now) grown) (sym c.requires.none) (grows_none tree c.args.b.now (c.args.from.0 ∷ numbers_of c.args.rest.now));
  };
}

pub push_reserved-requires : goal.push_reserved-requires
push_reserved-requires g c = omega (arith, c.loop-next.invariant.count, c.loop-next.invariant.room, c.requires.room, c.loop-next-test.true)

pub loop-next-preserved : goal.loop-next-preserved
loop-next-preserved g c =
    let w = c.in_ok-growth.ensures in
    let inv = c.loop-next.invariant in
    let rest : List PageNo = c.args.rest.now in
    let k = c.loop-next.next-index in
    let next : PageNo = get_or rest k none in
    let pushed = c.push_reserved.ensures.items in
    record {
      kept = one_more g.P.Pages c.args.pages.now c.loop-next.pages c.grow_to.new.pages c.in_ok-growth.growth inv.kept w.reads.kept;
      contents = λ tells. w.reads.contents tells ∙ inv.contents tells;
      mini = w.reads.mini ∙ inv.mini;
      inside = subst (λ (s : FileShape). next.0 < s.pages) inv.kept.keeps.same_shape w.inside;
      is = subst (λ (s : FileShape). IsPageOf s.pages c.args.owner next.0 c.grow_to.new.page.bytes) inv.kept.keeps.same_shape w.is;
      count = omega (arith, inv.count, c.push_reserved.ensures.len);
      room = c.push_reserved.ensures.capacity ∙ inv.room;
      way = λ tells tree at path.
          grows_on (g.P.Pages.contents c.args.pages.now) (g.P.Pages.shape c.args.pages.now) c.args.owner tree at.is c.args.b.now c.loop-next.at.0 next.0 c.loop-next.page.bytes c.grow_to.new.page.bytes (c.args.from.0 ∷ numbers_of rest) (numbers_of (drop k rest)) (numbers_of (drop (k + 1) rest)) c.in_ok-growth.growth c.loop-next.grown.items c.push_reserved.new.self.items
          (ahead rest k none c.loop-next-test.true) w.growth (w.page tells ∙ ap (λ (x : Contents). page_of x next.0) (inv.contents tells)) pushed (inv.way tells tree at path);
    }

pub returns-clause-growths : goal.returns-clause-growths
returns-clause-growths g c tells tree at path =
    let rest : List PageNo = c.args.rest.now in
    let k = c.loop-next.next-index in
    let way = c.loop-next.invariant.way tells tree at path in
    grows_all tree c.args.b.now (c.args.from.0 ∷ numbers_of rest) c.loop-next.at.0 c.loop-next.grown.items
    (subst (λ (l : List ℕ). GrowsWith tree c.args.b.now (c.args.from.0 ∷ numbers_of rest) (c.loop-next.at.0 ∷ l) c.loop-next.grown.items) (none_ahead rest k c.loop-next-test.false) way.more)

pub returns-in_err-growth-clause-sound : goal.returns-in_err-growth-clause-sound
returns-in_err-growth-clause-sound g c tells tree at path =
    let inv = c.loop-next.invariant in
    let rest : List PageNo = c.args.rest.now in
    let k = c.loop-next.next-index in
    let next : PageNo = get_or rest k none in
    let way = inv.way tells tree at path in
    let old = g.P.Pages.contents c.args.pages.now in
    let shape = g.P.Pages.shape c.args.pages.now in
    let leads : LeadsTo (node_of c.loop-next.page.bytes) next.0 = grows_leads old shape c.args.owner tree at.is c.args.b.now c.loop-next.at.0 next.0 c.loop-next.page.bytes (c.args.from.0 ∷ numbers_of rest) (numbers_of (drop k rest)) (numbers_of (drop (k + 1) rest)) c.loop-next.grown.items (ahead rest k none c.loop-next-test.true) way in
    let below : Below old shape c.args.owner tree c.loop-next.page.bytes next.0 = below_of old shape c.args.owner tree at.is c.loop-next.at.0 next.0 way.node c.loop-next.page.bytes way.there way.read leads in
    let page : IsPageOf (g.P.Pages.shape c.loop-next.pages).pages c.args.owner next.0 (page_of (g.P.Pages.contents c.loop-next.pages) next.0) = subst (λ (s : FileShape). IsPageOf s.pages c.args.owner next.0 (page_of (g.P.Pages.contents c.loop-next.pages) next.0)) (sym inv.kept.keeps.same_shape) (subst (λ (x : Contents). IsPageOf shape.pages c.args.owner next.0 (page_of x next.0)) (sym (inv.contents tells)) below.page) in
    let level : (header_of c.loop-next.page.bytes).level ≡ suc (header_of (page_of (g.P.Pages.contents c.loop-next.pages) next.0)).level = below.level ∙ ap (λ (x : Contents). suc (header_of (page_of x next.0)).level) (sym (inv.contents tells)) in
    let sound = c.in_err-growth.ensures.sound tells page leads level in
    search (rules, sound, c.from_residual.ensures)
