use Rattle.std.proofs.Common.{ℕ, ◌≡◌, true, false, List, [], ◌∷◌, sym, ◌∙◌, ap, subst}
use Rattle.isp_format.specs.Ranges.{Contents, page_of}
use Rattle.isp_page.specs.State.{FileShape, is_among}
use Rattle.isp_page.specs.Touched.{KeepsPages}
use Rattle.isp_space.proofs.ChangesLaws.{among_one}
use Rattle.isp_forest.specs.Steps.{remove, without}
use Rattle.isp_rnode.specs.Nodes.{IsNode}
use Rattle.isp_rtree.specs.Trees.{IsTreeAt}
use Rattle.isp_rtree.proofs.RemoveLaws.{removed}
use Rattle.isp_rtree.proofs.removing.remove.Goals as goal

pub returns-then-not-is_leaf-clause-sound : goal.returns-then-not-is_leaf-clause-sound
returns-then-not-is_leaf-clause-sound g c tells owner root tree node at there level =
    let q = c.args.leaf.0 in
    let here : IsNode owner q node c.read.new.into.bytes = subst (λ (bytes : List ℕ). IsNode owner q node bytes) (sym (c.in_ok-read.ensures.page tells)) (at.is.nodes q node there) in
    let yes = c.is_leaf.ensures.no owner node here level in
    absurd (let both : true ≡ false = sym yes ∙ c.if-not-is_leaf.true in cc)

pub returns-clause-removed : goal.returns-clause-removed
returns-clause-removed g c tells owner root tree at alone =
    let r = c.in_ok-read.ensures in
    let w = c.in_ok-replace.ensures in
    let q = c.args.leaf.0 in
    let number = c.args.number in
    let old = g.P.Pages.contents c.args.pages.now in
    let new = g.P.Pages.contents c.replace.new.pages in
    let shape = g.P.Pages.shape c.args.pages.now in
    let node : IsNode owner q alone.leaf c.read.new.into.bytes = subst (λ (bytes : List ℕ). IsNode owner q alone.leaf bytes) (sym (r.page tells)) (at.is.nodes q alone.leaf alone.there) in
    let made : IsNode owner q (without number q alone.leaf) c.page_without-new.result.bytes = c.page_without-new.ensures owner q alone.leaf node in
    let there : page_of new q ≡ c.page_without-new.result.bytes = w.page tells (r.page tells ∙ sym (ap (λ (x : Contents). page_of x q) (r.contents tells))) in
    let keeps : KeepsPages (λ page. is_among page (q ∷ [])) old new = subst (λ (x : Contents). KeepsPages (λ page. is_among page (q ∷ [])) x new) (r.contents tells) (among_one q _ new (w.others tells)) in
    subst (λ (s : FileShape). IsTreeAt new s owner root (remove tree number)) (sym (w.kept.keeps.same_shape ∙ r.kept.keeps.same_shape))
    (removed old new shape owner root tree q number at alone (subst (λ (bytes : List ℕ). IsNode owner q (without number q alone.leaf) bytes) (sym there) made) keeps)
