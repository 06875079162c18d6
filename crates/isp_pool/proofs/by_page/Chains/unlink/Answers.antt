use Rattle.std.proofs.Common.{arith, length, subst, sym, ap, ◌∙◌, ◌≡◌, ◌%◌, ◌<◌, Some, None}
use Rattle.std.proofs.lemmas.List.{get_or_read}
use Rattle.isp_pool.specs.Chains.{page_of_frame}
use Rattle.isp_pool.proofs.ChainLaws.{went_by, gap_in}
use Rattle.isp_pool.proofs.by_page.Chains.unlink.Goals as goal

pub invariant_of-self : goal.invariant_of-self
invariant_of-self c =
    let pages = c.self.inside.pages.items in
    let heads = c.self.inside.heads.items in
    let next = c.self.inside.next.items in
    let n : c.len.result ≡ length pages = let long = c.self.invariant.begun.long in omega (arith, c.len.ensures) in
    let frame : c.args.frame < length pages = subst (λ xs. c.args.frame < length xs) (sym c.self.view_is) c.requires in
    let linked : c.args.frame < length next = let long = c.self.invariant.linked.long in omega arith in
    let holds : page_of_frame pages c.args.frame ≡ Some c.in-Some.p = sym (get_or_read pages c.args.frame c.index.result.now frame c.index.ensures None) ∙ c.in-Some.is in
    went_by pages heads next c.point.new.heads.items c.point.new.next.items c.args.frame c.chain_of-chain.result c.in-Some.p
    c.above-above.result c.index-below.result.now c.self.invariant holds
    (c.chain_of-chain.ensures.chain ∙ ap (λ k. c.in-Some.p.0 % k) n) (omega (arith, c.chain_of-chain.ensures.below))
    (gap_in c.deref.result.now pages c.in-Some.p c.args.frame c.above-above.result c.deref.ensures.value c.above-above.ensures) (get_or_read next c.args.frame c.index-below.result.now linked c.index-below.ensures None) c.point.ensures.heads c.point.ensures.next
