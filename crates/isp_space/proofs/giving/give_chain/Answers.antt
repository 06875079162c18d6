use Rattle.std.proofs.Common.{◌≡◌, ℕ, ◌||◌, sym, ◌∙◌, ap, subst, arith}
use Rattle.isp_format.specs.Header.{header_of}
use Rattle.isp_format.specs.Ranges.{Contents, page_of}
use Rattle.isp_format.specs.Space.{IsSpacePage, SpacePage}
use Rattle.isp_page.specs.State.{FileShape}
use Rattle.isp_page.specs.Touched.{KeepsPages, is_page}
use Rattle.isp_space.specs.Giving.{with_chain, with_given}
use Rattle.isp_space.specs.Spaces.{IsSpace, first_of, space_page}
use Rattle.isp_space.proofs.GivingLaws.{few_given, given_page, given_space}
use Rattle.isp_space.proofs.giving.give_chain.Goals as goal

pub returns-in_ok-splice-in-Some-clause-given : goal.returns-in_ok-splice-in-Some-clause-given
returns-in_ok-splice-in-Some-clause-given g c tells s chain is given =
    let old = g.P.Pages.contents c.args.pages.now in
    let new = g.P.Pages.contents c.splice.new.pages in
    let n = c.in_ok-numbers.ensures in
    let w = c.in_ok-splice-in-Some.ensures in
    let pages_of = λ (shape : FileShape). shape.pages in
    let shape : (g.P.Pages.shape c.splice.new.pages).pages ≡ (g.P.Pages.shape c.args.pages.now).pages = ap pages_of w.kept.keeps.same_shape ∙ ap pages_of n.kept.keeps.same_shape in
    let same = n.contents tells in
    let found = n.found tells s is in
    let link = (w.link tells).header in
    let next : (header_of (page_of new c.args.last.0)).next ≡ first_of s.free = ap (λ (h : _). h.next) link ∙ ap (λ (p : SpacePage). p.free_head) found in
    let keeps : KeepsPages (λ q. is_page c.args.last.0 q || is_page 0 q) old new = subst (λ (was : Contents). KeepsPages (λ q. is_page c.args.last.0 q || is_page 0 q) was new) same (w.others tells) in
    let was : IsSpacePage (page_of (g.P.Pages.contents c.read_numbers.new.pages) 0) (space_page s) = subst (λ (c : Contents). IsSpacePage (page_of c 0) (space_page s)) (sym same) is.says in
    let said = w.says tells (space_page s) was (n.page tells ∙ sym (ap (λ (c : Contents). page_of c 0) same)) in
    let numbers = c.in-Some.ensures.numbers ∙ ap (with_given c.args.first.0 c.args.count) found ∙ given_page s old _ _ _ chain c.requires.last.0 given in
    let says : IsSpacePage (page_of new 0) (space_page (with_chain chain s)) = subst (λ (n : SpacePage). IsSpacePage (page_of new 0) n) numbers said in
    subst (λ (n : ℕ). IsSpace n new (with_chain chain s)) (sym shape) (given_space _ old new s _ _ _ chain c.requires.last.0 is given keeps next says)

pub returns-in-None-clause-sound : goal.returns-in-None-clause-sound
returns-in-None-clause-sound g c tells s chain is given =
    let few = few_given (g.P.Pages.contents c.args.pages.now) s _ _ _ chain is.inside given in
    let small = is.says.fits.fresh in
    let count = ap (λ (p : SpacePage). p.free_count) (c.in_ok-numbers.ensures.found tells s is) in
    let some = c.in-None.ensures.some (omega (arith, few, small, count)) in
    cc
