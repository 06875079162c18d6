use Rattle.std.proofs.Common.{ℕ, ◌<◌, ◌≤◌, sym, ◌∙◌, ap, subst}
use Rattle.isp_format.specs.Header.{header_of}
use Rattle.isp_format.specs.Ranges.{page_of}
use Rattle.isp_format.specs.Space.{SpacePage}
use Rattle.isp_space.specs.Spaces.{without_first}
use Rattle.isp_space.proofs.TakingLaws.{chain_taken, first_inside, first_is_next, ok_too, some_free}
use Rattle.isp_space.proofs.taking.next_page.Goals as goal

pub returns-else-numbers-eq0-clause-page : goal.returns-else-numbers-eq0-clause-page
returns-else-numbers-eq0-clause-page g c tells s is says =
    let some = some_free _ _ (ap (λ (n : SpacePage). n.free_count) says) c.if-numbers-eq0.false in
    ok_too _ _ c.first_free.result c.first_free.ensures.next (λ next e. e ∙ ap (λ (n : SpacePage). n.free_head) says ∙ first_is_next s.free s.fresh some)

pub returns-else-numbers-eq0-clause-left : goal.returns-else-numbers-eq0-clause-left
returns-else-numbers-eq0-clause-left g c tells s is says =
    let some = some_free _ _ (ap (λ (n : SpacePage). n.free_count) says) c.if-numbers-eq0.false in
    ok_too _ _ c.first_free.result (c.first_free.ensures.left tells) (λ next e.
    e ∙ ap (λ (n : SpacePage). without_first (header_of (page_of (g.P.Pages.contents c.args.pages.now) n.free_head)).next n) says ∙ chain_taken (g.P.Pages.contents c.args.pages.now) s.free s.fresh s.tables s.entries s.bytes some is.chain)

pub returns-else-numbers-eq0-clause-sound : goal.returns-else-numbers-eq0-clause-sound
returns-else-numbers-eq0-clause-sound g c tells s is says free =
    let some = some_free _ _ (ap (λ (n : SpacePage). n.free_count) says) c.if-numbers-eq0.false in
    let inside = first_inside s.free s.fresh some is.inside in
    let head = ap (λ (n : SpacePage). n.free_head) says in
    let fresh = ap (λ (n : SpacePage). n.fresh) says in
    c.first_free.ensures.sound (subst (λ (n : ℕ). 16 ≤ n) (sym head) inside.0) (subst (λ (n : ℕ). c.args.numbers.now.free_head < n) (sym fresh) (subst (λ (n : ℕ). n < s.fresh) (sym head) inside.1))
