use Rattle.std.proofs.Common.{◌≡◌, ℕ, ◌||◌, sym, ◌∙◌, ap, subst}
use Rattle.isp_format.specs.Ranges.{Contents, page_of}
use Rattle.isp_format.specs.Space.{IsSpacePage, SpacePage}
use Rattle.isp_page.specs.State.{FileShape}
use Rattle.isp_page.specs.Touched.{KeepsPages, is_page}
use Rattle.isp_space.specs.Spaces.{IsSpace, next_free, space_page, taken}
use Rattle.isp_space.proofs.SpaceLaws.{space_behind}
use Rattle.isp_space.proofs.TakingLaws.{kept_both, page_0_stays, taken_space}
use Rattle.isp_space.proofs.taking.take_page.Goals as goal

pub returns-clause-taken : goal.returns-clause-taken
returns-clause-taken g c tells s is some =
    let pages = (g.P.Pages.shape c.args.pages.now).pages in
    let old = g.P.Pages.contents c.args.pages.now in
    let new = g.P.Pages.contents c.clear_head.new.pages in
    let mid = g.P.Pages.contents c.write_numbers.new.pages in
    let n = c.in_ok-numbers.ensures in
    let p = c.in_ok-p.ensures in
    let w = c.in_ok-write_numbers.ensures in
    let h = c.in_ok-clear_head.ensures in
    let pages_of = λ (shape : FileShape). shape.pages in
    let shape_read = ap pages_of n.kept.keeps.same_shape in
    let shape_next = ap pages_of p.kept.keeps.same_shape ∙ shape_read in
    let shape : (g.P.Pages.shape c.clear_head.new.pages).pages ≡ pages = ap pages_of h.kept.keeps.same_shape ∙ ap pages_of w.kept.keeps.same_shape ∙ shape_next in
    let read = n.contents tells in
    let same = p.contents tells ∙ read in
    let there = space_behind _ _ _ _ s shape_read read is in
    let found = n.found tells s is in
    let page_is = p.page tells s there found in
    let left_is = p.left tells s there found in
    let wrote : KeepsPages (is_page 0) old mid = subst (λ (c : Contents). KeepsPages (is_page 0) c mid) same (w.others tells) in
    let keeps : KeepsPages (λ q. is_page 0 q || is_page (next_free s) q) old new =
    subst (λ (k : ℕ). KeepsPages (λ q. is_page 0 q || is_page k q) old new) page_is (kept_both _ old mid new wrote (h.others tells)) in
    let was : IsSpacePage (page_of (g.P.Pages.contents c.next_page.new.pages) 0) (space_page s) = subst (λ (c : Contents). IsSpacePage (page_of c 0) (space_page s)) (sym same) is.says in
    let said = w.says tells (space_page s) was (n.page tells ∙ sym (ap (λ (c : Contents). page_of c 0) same)) in
    let says_mid : IsSpacePage (page_of mid 0) (space_page (taken s)) = subst (λ (n : SpacePage). IsSpacePage (page_of mid 0) n) left_is said in
    let says : IsSpacePage (page_of new 0) (space_page (taken s)) = subst (λ (bytes : _). IsSpacePage bytes (space_page (taken s))) (sym (page_0_stays _ mid new p.behind (h.others tells))) says_mid in
    subst (λ (n : ℕ). IsSpace n new (taken s)) (sym shape) (taken_space pages old new s is some keeps says)
