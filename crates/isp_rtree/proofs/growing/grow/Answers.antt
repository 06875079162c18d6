use Rattle.std.proofs.Common.{rules, ℕ, ◌≡◌, ◌<◌, List, [], ◌∷◌, length, get_or, sym, ◌∙◌, subst, arith}
use Rattle.isp_base.specs.declared.page_no.PageNo.{PageNo}
use Rattle.isp_format.specs.Ranges.{Contents}
use Rattle.isp_page.specs.State.{FileShape}
use Rattle.isp_forest.specs.Place.{Stands}
use Rattle.isp_rtree.specs.Growing.{AreGrowths}
use Rattle.isp_rtree.specs.Paths.{numbers_of}
use Rattle.isp_rtree.specs.Trees.{IsAtPage, IsPageOf, IsTreeAt}
use Rattle.isp_rtree.proofs.PathLaws.{first_inside, no_path, none_stands, others, others_fit, parts_of}
use Rattle.isp_rtree.proofs.TreeLaws.{at_root}
use Rattle.isp_rtree.proofs.growing.grow.Goals as goal

abbrev none : PageNo
none = record { 0 = 0 }

pub returns-then-path-eq0-clause-growths : goal.returns-then-path-eq0-clause-growths
returns-then-path-eq0-clause-growths g c tells owner root tree at stands =
    let empty : numbers_of c.args.path.now ≡ [] = no_path c.args.path.now (omega (arith, c.if-path-eq0.true)) in
    absurd (none_stands tree (subst (λ (l : List ℕ). Stands tree l) empty stands))

pub read_root-requires-clause-page : goal.read_root-requires-clause-page
read_root-requires-clause-page g c = first_inside c.args.path.now none (g.P.Pages.shape c.args.pages.now).pages (omega (arith, c.if-path-eq0.false)) c.requires.inside

pub returns-in_err-owner-clause-sound : goal.returns-in_err-owner-clause-sound
returns-in_err-owner-clause-sound g c tells owner root tree at stands =
    let first : PageNo = get_or c.args.path.now 0 none in
    let whole : Stands tree (first.0 ∷ numbers_of (others c.args.path.now)) = subst (λ (l : List ℕ). Stands tree l) (parts_of c.args.path.now none (omega (arith, c.if-path-eq0.false))) stands in
    let is : first.0 ≡ root = whole.starts ∙ at.root_is in
    let here : IsTreeAt (g.P.Pages.contents c.args.pages.now) (g.P.Pages.shape c.args.pages.now) owner first.0 tree = subst (λ (q : ℕ). IsTreeAt (g.P.Pages.contents c.args.pages.now) (g.P.Pages.shape c.args.pages.now) owner q tree) (sym is) at in
    let sound = c.in_err-owner.ensures.holds tells owner tree here in
    search (rules, sound, c.from_residual.ensures)

pub grow_below-requires-clause-from : goal.grow_below-requires-clause-from
grow_below-requires-clause-from g c =
    let inside : (get_or c.args.path.now 0 none).0 < (g.P.Pages.shape c.args.pages.now).pages = first_inside c.args.path.now none (g.P.Pages.shape c.args.pages.now).pages (omega (arith, c.if-path-eq0.false)) c.requires.inside in
    subst (λ (s : FileShape). (get_or c.args.path.now 0 none).0 < s.pages) (sym c.in_ok-owner.ensures.reads.kept.keeps.same_shape) inside

pub grow_below-requires-clause-is : goal.grow_below-requires-clause-is
grow_below-requires-clause-is g c =
    let first : PageNo = get_or c.args.path.now 0 none in
    let r = c.in_ok-owner.ensures in
    subst (λ (s : FileShape). IsPageOf s.pages c.in_ok-owner.owner first.0 c.read_root.new.into.bytes) (sym r.reads.kept.keeps.same_shape) r.is.page

pub grow_below-requires-clause-room : goal.grow_below-requires-clause-room
grow_below-requires-clause-room g c = others_fit c.args.path.now _ c.requires.room

pub returns-in_err-grow_below-clause-sound : goal.returns-in_err-grow_below-clause-sound
returns-in_err-grow_below-clause-sound g c tells owner root tree at stands =
    let first : PageNo = get_or c.args.path.now 0 none in
    let whole : Stands tree (first.0 ∷ numbers_of (others c.args.path.now)) = subst (λ (l : List ℕ). Stands tree l) (parts_of c.args.path.now none (omega (arith, c.if-path-eq0.false))) stands in
    let old = g.P.Pages.contents c.args.pages.now in
    let shape = g.P.Pages.shape c.args.pages.now in
    let r = c.in_ok-owner.ensures in
    let here : IsTreeAt old shape owner first.0 tree = subst (λ (q : ℕ). IsTreeAt old shape owner q tree) (sym (whole.starts ∙ at.root_is)) at in
    let read = at_root old shape owner c.in_ok-owner.owner first.0 shape.pages tree c.read_root.new.into.bytes here (r.page tells) r.is in
    let mid : IsAtPage (g.P.Pages.contents c.read_root.new.pages) (g.P.Pages.shape c.read_root.new.pages) c.in_ok-owner.owner tree first.0 c.read_root.new.into.bytes = subst (λ (s : FileShape). IsAtPage (g.P.Pages.contents c.read_root.new.pages) s c.in_ok-owner.owner tree first.0 c.read_root.new.into.bytes) (sym r.reads.kept.keeps.same_shape) (subst (λ (x : Contents). IsAtPage x shape c.in_ok-owner.owner tree first.0 c.read_root.new.into.bytes) (sym (r.reads.contents tells)) read) in
    let sound = c.in_err-grow_below.ensures.sound tells tree mid whole.steps in
    search (rules, sound, c.from_residual-in_err-grow_below.ensures)

pub returns-clause-growths : goal.returns-clause-growths
returns-clause-growths g c tells owner root tree at stands =
    let first : PageNo = get_or c.args.path.now 0 none in
    let some : 0 < length c.args.path.now = omega (arith, c.if-path-eq0.false) in
    let whole : Stands tree (first.0 ∷ numbers_of (others c.args.path.now)) = subst (λ (l : List ℕ). Stands tree l) (parts_of c.args.path.now none some) stands in
    let old = g.P.Pages.contents c.args.pages.now in
    let shape = g.P.Pages.shape c.args.pages.now in
    let r = c.in_ok-owner.ensures in
    let here : IsTreeAt old shape owner first.0 tree = subst (λ (q : ℕ). IsTreeAt old shape owner q tree) (sym (whole.starts ∙ at.root_is)) at in
    let read = at_root old shape owner c.in_ok-owner.owner first.0 shape.pages tree c.read_root.new.into.bytes here (r.page tells) r.is in
    let mid : IsAtPage (g.P.Pages.contents c.read_root.new.pages) (g.P.Pages.shape c.read_root.new.pages) c.in_ok-owner.owner tree first.0 c.read_root.new.into.bytes = subst (λ (s : FileShape). IsAtPage (g.P.Pages.contents c.read_root.new.pages) s c.in_ok-owner.owner tree first.0 c.read_root.new.into.bytes) (sym r.reads.kept.keeps.same_shape) (subst (λ (x : Contents). IsAtPage x shape c.in_ok-owner.owner tree first.0 c.read_root.new.into.bytes) (sym (r.reads.contents tells)) read) in
    let grown = c.in_ok-grow_below.ensures.growths tells tree mid whole.steps in
    subst (λ (l : List ℕ). AreGrowths tree c.args.b.now l c.grow_below.new.grown.items) (sym (parts_of c.args.path.now none some)) grown
