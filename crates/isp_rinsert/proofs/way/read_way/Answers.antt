use Rattle.std.proofs.Common.{rules, ℕ, ◌≡◌, ◌++◌, List, [], ◌∷◌, get_or, refl, sym, ◌∙◌, ap, subst}
use Rattle.isp_base.specs.declared.page_no.PageNo.{PageNo}
use Rattle.isp_format.specs.Header.{header_of}
use Rattle.isp_format.specs.Ranges.{Contents}
use Rattle.isp_page.specs.State.{FileShape}
use Rattle.isp_forest.specs.Place.{Stands}
use Rattle.isp_rplan.specs.declared.steps.PathPage.{PathPage}
use Rattle.isp_rtree.specs.Paths.{numbers_of}
use Rattle.isp_rtree.specs.Trees.{IsAtPage, IsTreeAt}
use Rattle.isp_rtree.proofs.PathLaws.{first_inside, others, parts_of}
use Rattle.isp_rinsert.specs.Ways.{GoesDown, GoesDownIn}
use Rattle.isp_rinsert.proofs.WayLaws.{at_top, way_in, way_numbers, way_of}
use Rattle.isp_rinsert.proofs.way.read_way.Goals as goal

abbrev none : PageNo
none = record { 0 = 0 }

pub returns-in_err-owner-clause-sound : goal.returns-in_err-owner-clause-sound
returns-in_err-owner-clause-sound g c tells owner root tree at stands low =
    let first : PageNo = get_or c.args.path.now 0 none in
    let whole : Stands tree (first.0 ∷ numbers_of (others c.args.path.now)) = subst (λ (l : List ℕ). Stands tree l) (parts_of c.args.path.now none c.requires.some) stands in
    let here : IsTreeAt (g.P.Pages.contents c.args.pages.now) (g.P.Pages.shape c.args.pages.now) owner first.0 tree = subst (λ (q : ℕ). IsTreeAt (g.P.Pages.contents c.args.pages.now) (g.P.Pages.shape c.args.pages.now) owner q tree) (sym (whole.starts ∙ at.root_is)) at in
    let sound = c.in_err-owner.ensures.sound tells owner tree here low in
    search (rules, sound, c.from_residual-in_err-owner.ensures)

pub returns-in_err-read_rest-clause-sound : goal.returns-in_err-read_rest-clause-sound
returns-in_err-read_rest-clause-sound g c tells owner root tree at stands low =
    let first : PageNo = get_or c.args.path.now 0 none in
    let whole : Stands tree (first.0 ∷ numbers_of (others c.args.path.now)) = subst (λ (l : List ℕ). Stands tree l) (parts_of c.args.path.now none c.requires.some) stands in
    let old = g.P.Pages.contents c.args.pages.now in
    let shape = g.P.Pages.shape c.args.pages.now in
    let r = c.in_ok-owner.ensures in
    let bytes : List ℕ = c.read_top.new.into.bytes in
    let here : IsTreeAt old shape owner first.0 tree = subst (λ (q : ℕ). IsTreeAt old shape owner q tree) (sym (whole.starts ∙ at.root_is)) at in
    let read = at_top old shape owner c.in_ok-owner.owner first.0 shape.pages tree bytes here (r.page tells) r.is in
    let mid : IsAtPage (g.P.Pages.contents c.read_top.new.pages) (g.P.Pages.shape c.read_top.new.pages) c.in_ok-owner.owner tree first.0 bytes = subst (λ (s : FileShape). IsAtPage (g.P.Pages.contents c.read_top.new.pages) s c.in_ok-owner.owner tree first.0 bytes) (sym r.reads.kept.keeps.same_shape) (subst (λ (x : Contents). IsAtPage x shape c.in_ok-owner.owner tree first.0 bytes) (sym (r.reads.contents tells)) read) in
    let sound = c.in_err-read_rest.ensures.sound tells tree mid (whole.steps, whole.leaf) in
    search (rules, sound, c.from_residual-in_err-read_rest.ensures)

pub returns-clause-way : goal.returns-clause-way
returns-clause-way g c =
    let first : PageNo = get_or c.args.path.now 0 none in
    let shape = g.P.Pages.shape c.args.pages.now in
    let r = c.in_ok-owner.ensures in
    let bytes : List ℕ = c.read_top.new.into.bytes in
    let before : List PathPage = c.push_reserved.new.self.items in
    let one : before ≡ c.in_ok-path_page.field-0 ∷ [] = c.push_reserved.ensures.items ∙ ap (λ (l : List PathPage). l ++ c.in_ok-path_page.field-0 ∷ []) c.in_ok-way.ensures.items in
    let down : GoesDown shape.pages (header_of bytes).level (others c.args.path.now) before c.read_rest.new.way.items = subst (λ (s : FileShape). GoesDown s.pages (header_of bytes).level (others c.args.path.now) before c.read_rest.new.way.items) r.reads.kept.keeps.same_shape c.in_ok-read_rest.ensures.leads in
    way_of shape.pages c.args.path.now none bytes before c.read_rest.new.way.items c.in_ok-path_page.field-0 _ c.requires.some r.low one c.in_ok-path_page.ensures (first_inside c.args.path.now none shape.pages c.requires.some c.requires.inside) down refl

pub returns-clause-read : goal.returns-clause-read
returns-clause-read g c tells owner root tree at stands =
    let first : PageNo = get_or c.args.path.now 0 none in
    let whole : Stands tree (first.0 ∷ numbers_of (others c.args.path.now)) = subst (λ (l : List ℕ). Stands tree l) (parts_of c.args.path.now none c.requires.some) stands in
    let old = g.P.Pages.contents c.args.pages.now in
    let shape = g.P.Pages.shape c.args.pages.now in
    let r = c.in_ok-owner.ensures in
    let bytes : List ℕ = c.read_top.new.into.bytes in
    let here : IsTreeAt old shape owner first.0 tree = subst (λ (q : ℕ). IsTreeAt old shape owner q tree) (sym (whole.starts ∙ at.root_is)) at in
    let read = at_top old shape owner c.in_ok-owner.owner first.0 shape.pages tree bytes here (r.page tells) r.is in
    let mid : IsAtPage (g.P.Pages.contents c.read_top.new.pages) (g.P.Pages.shape c.read_top.new.pages) c.in_ok-owner.owner tree first.0 bytes = subst (λ (s : FileShape). IsAtPage (g.P.Pages.contents c.read_top.new.pages) s c.in_ok-owner.owner tree first.0 bytes) (sym r.reads.kept.keeps.same_shape) (subst (λ (x : Contents). IsAtPage x shape c.in_ok-owner.owner tree first.0 bytes) (sym (r.reads.contents tells)) read) in
    let before : List PathPage = c.push_reserved.new.self.items in
    let now : List PathPage = c.read_rest.new.way.items in
    let one : before ≡ c.in_ok-path_page.field-0 ∷ [] = c.push_reserved.ensures.items ∙ ap (λ (l : List PathPage). l ++ c.in_ok-path_page.field-0 ∷ []) c.in_ok-way.ensures.items in
    let down : GoesDownIn tree before now = c.in_ok-read_rest.ensures.read tells tree mid (whole.steps, whole.leaf) in
    let numbers = way_numbers c.args.path.now none before now c.in_ok-path_page.field-0 c.in_ok-read_rest.ensures.leads.added c.requires.some one c.in_ok-path_page.ensures.page_is c.in_ok-read_rest.ensures.leads.numbers c.in_ok-read_rest.ensures.leads.is in
    way_in old shape owner c.in_ok-owner.owner first.0 shape.pages tree c.args.path.now none bytes before now c.in_ok-path_page.field-0 _ here refl c.requires.some (r.page tells) r.is one c.in_ok-path_page.ensures numbers down refl refl r.counter
