use Rattle.std.proofs.Common.{rules, ℕ, ◌≡◌, ◌+◌, ◌<◌, suc, List, ◌∷◌, drop, get_or, Option, false, true, refl, sym, ◌∙◌, ap, subst}
use Rattle.isp_base.specs.declared.page_no.PageNo.{PageNo}
use Rattle.isp_format.specs.Header.{header_of}
use Rattle.isp_format.specs.Ranges.{Contents, page_of}
use Rattle.isp_page.specs.State.{FileShape}
use Rattle.isp_rnode.specs.Nodes.{node_of}
use Rattle.isp_rtree.specs.Paths.{Leads, LeadsTo, numbers_of}
use Rattle.isp_rtree.specs.Trees.{IsInside, IsPageOf}
use Rattle.isp_rtree.proofs.PathLaws.{Below, ahead, below_of, is_there, isnt_there, names_page, none_ahead, none_is, some_leads, way_ends, way_leaf, way_on, zero_iff}
use Rattle.isp_rtree.proofs.paths.leads.Goals as goal

abbrev none : PageNo
none = record { 0 = 0 }

pub loop-next-init : goal.loop-next-init
loop-next-init g c = record {
  kept = search rules;
  contents = λ tells. refl;
  mini = refl;
  is = c.requires.is;
  way = λ tells tree from at. (from, record { node = at.node; there = at.there; read = at.read; same = (λ x. x, λ x. x) });
}

pub read_below-requires-clause-page : goal.read_below-requires-clause-page
read_below-requires-clause-page g c =
    let next : PageNo = get_or c.args.rest.now c.loop-next.next-index none in
    let leads : LeadsTo (node_of c.loop-next.page.bytes) next.0 = some_leads (node_of c.loop-next.page.bytes) next.0 c.entry_for.result c.entry_for.ensures.some (is_there c.entry_for.result c.is_none.result c.is_none.ensures c.if-is_none.false) in
    let inside : next.0 < (g.P.Pages.shape c.args.pages.now).pages = subst (λ (o : Option ℕ). IsInside (g.P.Pages.shape c.args.pages.now).pages o) leads.2 (c.loop-next.invariant.is.children leads.0 leads.1) in
    subst (λ (s : FileShape). next.0 < s.pages) (sym c.loop-next.invariant.kept.keeps.same_shape) inside

pub loop-next-preserved : goal.loop-next-preserved
loop-next-preserved g c =
    let w = c.in_ok-read_below.ensures in
    let inv = c.loop-next.invariant in
    let rest : List PageNo = c.args.rest.now in
    let k = c.loop-next.next-index in
    let next : PageNo = get_or rest k none in
    let leads : LeadsTo (node_of c.loop-next.page.bytes) next.0 = some_leads (node_of c.loop-next.page.bytes) next.0 c.entry_for.result c.entry_for.ensures.some (is_there c.entry_for.result c.is_none.result c.is_none.ensures c.if-is_none.false) in
    let is : IsPageOf (g.P.Pages.shape c.args.pages.now).pages c.args.owner next.0 c.read_below.new.into.bytes = subst (λ (s : FileShape). IsPageOf s.pages c.args.owner next.0 c.read_below.new.into.bytes) inv.kept.keeps.same_shape w.is in
    record {
      kept = search rules;
      contents = λ tells. w.reads.contents tells ∙ inv.contents tells;
      mini = w.reads.mini ∙ inv.mini;
      is = subst (λ (q : ℕ). IsPageOf (g.P.Pages.shape c.args.pages.now).pages c.args.owner q c.read_below.new.into.bytes) (sym is.node.own) is;
      way = λ tells tree from at. (let way = inv.way tells tree from at in (
        next.0,
        way_on (g.P.Pages.contents c.args.pages.now) (g.P.Pages.shape c.args.pages.now) c.args.owner tree at.is way.0 next.0 c.loop-next.page.bytes c.read_below.new.into.bytes (from ∷ numbers_of rest) (numbers_of (drop k rest)) (numbers_of (drop (k + 1) rest)) (ahead rest k none c.loop-next-test.true) leads
            (w.page tells ∙ ap (λ (x : Contents). page_of x next.0) (inv.contents tells)) way.1,
      ));
    }

pub returns-then-is_none-clause-leads : goal.returns-then-is_none-clause-leads
returns-then-is_none-clause-leads g c tells tree from at =
    let rest : List PageNo = c.args.rest.now in
    let k = c.loop-next.next-index in
    let next : PageNo = get_or rest k none in
    let way = c.loop-next.invariant.way tells tree from at in (
      λ no. absurd (let bad : false ≡ true = no in cc),
      λ leads. absurd (way_ends (g.P.Pages.contents c.args.pages.now) (g.P.Pages.shape c.args.pages.now) c.args.owner tree at.is way.0 next.0 c.loop-next.page.bytes (from ∷ numbers_of rest) (numbers_of (drop k rest)) (numbers_of (drop (k + 1) rest)) (ahead rest k none c.loop-next-test.true) (c.entry_for.ensures.none (none_is c.entry_for.result (isnt_there c.entry_for.result c.is_none.result c.is_none.ensures c.if-is_none.true))) way.1 leads),
    )

pub returns-clause-leads : goal.returns-clause-leads
returns-clause-leads g c tells tree from at =
    let rest : List PageNo = c.args.rest.now in
    let k = c.loop-next.next-index in
    let way = c.loop-next.invariant.way tells tree from at in
    zero_iff c.level_of.result (header_of c.loop-next.page.bytes).level (Leads tree (from ∷ numbers_of rest)) c.level_of.ensures
    (way_leaf (g.P.Pages.contents c.args.pages.now) (g.P.Pages.shape c.args.pages.now) c.args.owner tree at.is way.0 c.loop-next.page.bytes (from ∷ numbers_of rest) (numbers_of (drop k rest)) (none_ahead rest k c.loop-next-test.false) way.1)

pub returns-in_err-read_below-clause-sound : goal.returns-in_err-read_below-clause-sound
returns-in_err-read_below-clause-sound g c tells tree from at =
    let inv = c.loop-next.invariant in
    let next : PageNo = get_or c.args.rest.now c.loop-next.next-index none in
    let leads : LeadsTo (node_of c.loop-next.page.bytes) next.0 = some_leads (node_of c.loop-next.page.bytes) next.0 c.entry_for.result c.entry_for.ensures.some (is_there c.entry_for.result c.is_none.result c.is_none.ensures c.if-is_none.false) in
    let way = inv.way tells tree from at in
    let old = g.P.Pages.contents c.args.pages.now in
    let shape = g.P.Pages.shape c.args.pages.now in
    let below : Below old shape c.args.owner tree c.loop-next.page.bytes next.0 = below_of old shape c.args.owner tree at.is way.0 next.0 way.1.node c.loop-next.page.bytes way.1.there way.1.read leads in
    let page : IsPageOf (g.P.Pages.shape c.loop-next.pages).pages c.args.owner next.0 (page_of (g.P.Pages.contents c.loop-next.pages) next.0) = subst (λ (s : FileShape). IsPageOf s.pages c.args.owner next.0 (page_of (g.P.Pages.contents c.loop-next.pages) next.0)) (sym inv.kept.keeps.same_shape) (subst (λ (x : Contents). IsPageOf shape.pages c.args.owner next.0 (page_of x next.0)) (sym (inv.contents tells)) below.page) in
    let level : c.level_of-level.result ≡ suc (header_of (page_of (g.P.Pages.contents c.loop-next.pages) next.0)).level = c.level_of-level.ensures ∙ below.level ∙ ap (λ (x : Contents). suc (header_of (page_of x next.0)).level) (sym (inv.contents tells)) in
    let sound = c.in_err-read_below.ensures.sound tells page level in
    search (rules, sound, c.from_residual.ensures)

pub returns-in_err-read_below-clause-reads : goal.returns-in_err-read_below-clause-reads
returns-in_err-read_below-clause-reads g c =
    let next : PageNo = get_or c.args.rest.now c.loop-next.next-index none in
    let leads : LeadsTo (node_of c.loop-next.page.bytes) next.0 = some_leads (node_of c.loop-next.page.bytes) next.0 c.entry_for.result c.entry_for.ensures.some (is_there c.entry_for.result c.is_none.result c.is_none.ensures c.if-is_none.false) in
    let inside : next.0 < (g.P.Pages.shape c.args.pages.now).pages = subst (λ (o : Option ℕ). IsInside (g.P.Pages.shape c.args.pages.now).pages o) leads.2 (c.loop-next.invariant.is.children leads.0 leads.1) in
    let names = names_page next.0 (g.P.Pages.shape c.args.pages.now).pages _ inside c.in_err-read_below.ensures.reads.names in
    record {
      kept = search rules;
      contents = search rules;
      mini = search rules;
      names = search (rules, names, c.from_residual.ensures);
    }
