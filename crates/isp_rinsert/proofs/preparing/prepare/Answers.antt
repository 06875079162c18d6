use Rattle.std.proofs.Common.{rules, ℕ, ◌≡◌, List, reverse, sym, ◌∙◌, ap, subst}
use Rattle.isp_rplan.specs.Plans.{IsPlan}
use Rattle.isp_rplan.specs.declared.steps.Carry.TheVariants.{Added}
use Rattle.isp_rtree.specs.Growing.{AreGrowths}
use Rattle.isp_rtree.specs.declared.growing.Growth.{Growth}
use Rattle.isp_format.specs.Control.{IsFanout}
use Rattle.isp_format.specs.Ranges.{Contents}
use Rattle.isp_page.specs.State.{FileShape}
use Rattle.isp_rtree.specs.Paths.{numbers_of}
use Rattle.isp_rtree.specs.Trees.{IsTreeAt}
use Rattle.isp_rinsert.specs.Preparing.{IsWay, IsWayOf}
use Rattle.isp_rinsert.proofs.preparing.prepare.Goals as goal

pub returns-in_err-grown-clause-sound : goal.returns-in_err-grown-clause-sound
returns-in_err-grown-clause-sound g c tells owner root tree at stands low =
    let sound = c.in_err-grown.ensures.sound tells owner root tree at stands in
    search (rules, sound, c.from_residual.ensures)

pub returns-in_err-way-clause-sound : goal.returns-in_err-way-clause-sound
returns-in_err-way-clause-sound g c tells owner root tree at stands low =
    let r = c.in_ok-grown.ensures.reads in
    let mid : IsTreeAt (g.P.Pages.contents c.growths.new.pages) (g.P.Pages.shape c.growths.new.pages) owner root tree = subst (λ (s : FileShape). IsTreeAt (g.P.Pages.contents c.growths.new.pages) s owner root tree) (sym r.kept.keeps.same_shape) (subst (λ (x : Contents). IsTreeAt x (g.P.Pages.shape c.args.pages.now) owner root tree) (sym (r.contents tells)) at) in
    let sound = c.in_err-way.ensures.sound tells owner root tree mid stands low in
    search (rules, sound, c.from_residual-in_err-way.ensures)

pub returns-clause-ready : goal.returns-clause-ready
returns-clause-ready g c =
    let r = c.in_ok-grown.ensures.reads in
    let is : IsWay (g.P.Pages.shape c.args.pages.now).pages (numbers_of c.args.path.now) c.in_ok-way.way = subst (λ (s : FileShape). IsWay s.pages (numbers_of c.args.path.now) c.in_ok-way.way) r.kept.keeps.same_shape c.in_ok-way.ensures.way in
    c.in_ok-work.ensures.ready (g.P.Pages.shape c.args.pages.now).pages (numbers_of c.args.path.now) is

pub returns-clause-prepared : goal.returns-clause-prepared
returns-clause-prepared g c tells owner root tree at stands =
    let r = c.in_ok-grown.ensures.reads in
    let mid : IsTreeAt (g.P.Pages.contents c.growths.new.pages) (g.P.Pages.shape c.growths.new.pages) owner root tree = subst (λ (s : FileShape). IsTreeAt (g.P.Pages.contents c.growths.new.pages) s owner root tree) (sym r.kept.keeps.same_shape) (subst (λ (x : Contents). IsTreeAt x (g.P.Pages.shape c.args.pages.now) owner root tree) (sym (r.contents tells)) at) in
    let way : IsWayOf owner tree (numbers_of c.args.path.now) c.in_ok-way.way = c.in_ok-way.ensures.read tells owner root tree mid stands in
    let w = c.in_ok-work.ensures in
    let fanout : c.fanout-fanout.result ≡ (g.P.Pages.shape c.args.pages.now).fanout = c.fanout-fanout.ensures.most ∙ ap (λ (s : FileShape). s.fanout) (c.in_ok-way.ensures.reads.kept.keeps.same_shape ∙ r.kept.keeps.same_shape) in
    record {
      owner_is = w.owner ∙ way.owner_is;
      counter_is = w.counter ∙ way.counter_is;
      fan = subst IsFanout fanout c.fanout-fanout.ensures.within;
      box = w.ordered;
      pages = c.in_ok-way.way.pages.items;
      are = way.are;
      plan = subst (λ (n : ℕ). IsPlan n c.args.b.now (reverse c.in_ok-way.way.pages.items) (Added c.args.b.now) (reverse c.in_ok-work.work.steps.items)) fanout w.plan;
      growths = subst (λ (l : List Growth). AreGrowths tree c.args.b.now (numbers_of c.args.path.now) l) (sym w.growths) (c.in_ok-grown.ensures.growths tells owner root tree at stands);
    }
