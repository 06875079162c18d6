use Rattle.std.proofs.Common.{rules, ℕ, ◌≡◌, ◌<◌, List, [], length, get_or, false, true, sym, subst, arith}
use Rattle.std.specs.Prelude.{◌↔◌, IsTrue}
use Rattle.isp_base.specs.declared.page_no.PageNo.{PageNo}
use Rattle.isp_format.specs.Header.{header_of}
use Rattle.isp_format.specs.Ranges.{Contents}
use Rattle.isp_page.specs.State.{FileShape}
use Rattle.isp_forest.specs.Place.{Stands}
use Rattle.isp_rtree.specs.Paths.{numbers_of}
use Rattle.isp_rtree.specs.Trees.{IsAtPage, IsPageOf, IsTreeAt}
use Rattle.isp_rtree.proofs.PathLaws.{first_inside, first_is, iff_on, no_path, none_stands, others, parts_of, stands_or_leads}
use Rattle.isp_rtree.proofs.TreeLaws.{at_root}
use Rattle.isp_rtree.proofs.paths.path_stands.Goals as goal

abbrev none : PageNo
none = record { 0 = 0 }

pub returns-then-path-eq0-clause-stands : goal.returns-then-path-eq0-clause-stands
returns-then-path-eq0-clause-stands g c tells owner root tree at begins =
    let empty : numbers_of c.args.path.now ≡ [] = no_path c.args.path.now (omega (arith, c.if-path-eq0.true)) in
    (λ bad. absurd (let both : false ≡ true = bad in cc), λ stands. absurd (none_stands tree (subst (λ (l : List ℕ). Stands tree l) empty stands)))

pub read_root-requires-clause-page : goal.read_root-requires-clause-page
read_root-requires-clause-page g c = first_inside c.args.path.now none (g.P.Pages.shape c.args.pages.now).pages (omega (arith, c.if-path-eq0.false)) c.requires.inside

pub returns-in_err-owner-clause-sound : goal.returns-in_err-owner-clause-sound
returns-in_err-owner-clause-sound g c tells owner root tree at begins =
    let first : PageNo = get_or c.args.path.now 0 none in
    let is : first.0 ≡ root = first_is c.args.path.now none root (omega (arith, c.if-path-eq0.false)) begins in
    let here : IsTreeAt (g.P.Pages.contents c.args.pages.now) (g.P.Pages.shape c.args.pages.now) owner first.0 tree = subst (λ (q : ℕ). IsTreeAt (g.P.Pages.contents c.args.pages.now) (g.P.Pages.shape c.args.pages.now) owner q tree) (sym is) at in
    let sound = c.in_err-owner.ensures.holds tells owner tree here in
    search (rules, sound, c.from_residual.ensures)

pub leads-requires-clause-is : goal.leads-requires-clause-is
leads-requires-clause-is g c =
    let first : PageNo = get_or c.args.path.now 0 none in
    let r = c.in_ok-owner.ensures in
    let bytes = c.read_root.new.into.bytes in
    let own = r.is.page.node.own in
    subst (λ (s : FileShape). IsPageOf s.pages c.in_ok-owner.owner (header_of bytes).own bytes) (sym r.reads.kept.keeps.same_shape) (subst (λ (q : ℕ). IsPageOf (g.P.Pages.shape c.args.pages.now).pages c.in_ok-owner.owner q bytes) (sym own) r.is.page)

pub returns-in_err-stands-clause-sound : goal.returns-in_err-stands-clause-sound
returns-in_err-stands-clause-sound g c tells owner root tree at begins =
    let first : PageNo = get_or c.args.path.now 0 none in
    let is : first.0 ≡ root = first_is c.args.path.now none root (omega (arith, c.if-path-eq0.false)) begins in
    let old = g.P.Pages.contents c.args.pages.now in
    let shape = g.P.Pages.shape c.args.pages.now in
    let r = c.in_ok-owner.ensures in
    let here : IsTreeAt old shape owner first.0 tree = subst (λ (q : ℕ). IsTreeAt old shape owner q tree) (sym is) at in
    let read = at_root old shape owner c.in_ok-owner.owner first.0 shape.pages tree c.read_root.new.into.bytes here (r.page tells) r.is in
    let mid : IsAtPage (g.P.Pages.contents c.read_root.new.pages) (g.P.Pages.shape c.read_root.new.pages) c.in_ok-owner.owner tree first.0 c.read_root.new.into.bytes = subst (λ (s : FileShape). IsAtPage (g.P.Pages.contents c.read_root.new.pages) s c.in_ok-owner.owner tree first.0 c.read_root.new.into.bytes) (sym r.reads.kept.keeps.same_shape) (subst (λ (x : Contents). IsAtPage x shape c.in_ok-owner.owner tree first.0 c.read_root.new.into.bytes) (sym (r.reads.contents tells)) read) in
    let sound = c.in_err-stands.ensures.sound tells tree first.0 mid in
    search (rules, sound, c.from_residual-in_err-stands.ensures)

pub returns-clause-stands : goal.returns-clause-stands
returns-clause-stands g c tells owner root tree at begins =
    let first : PageNo = get_or c.args.path.now 0 none in
    let some : 0 < length c.args.path.now = omega (arith, c.if-path-eq0.false) in
    let is : first.0 ≡ root = first_is c.args.path.now none root some begins in
    let old = g.P.Pages.contents c.args.pages.now in
    let shape = g.P.Pages.shape c.args.pages.now in
    let r = c.in_ok-owner.ensures in
    let here : IsTreeAt old shape owner first.0 tree = subst (λ (q : ℕ). IsTreeAt old shape owner q tree) (sym is) at in
    let read = at_root old shape owner c.in_ok-owner.owner first.0 shape.pages tree c.read_root.new.into.bytes here (r.page tells) r.is in
    let mid : IsAtPage (g.P.Pages.contents c.read_root.new.pages) (g.P.Pages.shape c.read_root.new.pages) c.in_ok-owner.owner tree first.0 c.read_root.new.into.bytes = subst (λ (s : FileShape). IsAtPage (g.P.Pages.contents c.read_root.new.pages) s c.in_ok-owner.owner tree first.0 c.read_root.new.into.bytes) (sym r.reads.kept.keeps.same_shape) (subst (λ (x : Contents). IsAtPage x shape c.in_ok-owner.owner tree first.0 c.read_root.new.into.bytes) (sym (r.reads.contents tells)) read) in
    let leads = c.in_ok-stands.ensures.leads tells tree first.0 mid in
    let whole = iff_on leads (stands_or_leads tree first.0 (numbers_of (others c.args.path.now)) here.root_is) in
    subst (λ (l : List ℕ). IsTrue c.in_ok-stands.stands ↔ Stands tree l) (sym (parts_of c.args.path.now none some)) whole
