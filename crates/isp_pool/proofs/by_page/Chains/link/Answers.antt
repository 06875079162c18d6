use Rattle.std.proofs.Common.{arith, length, subst, sym, ap, ◌∙◌, ◌≡◌, ◌%◌, ◌<◌, None}
use Rattle.isp_pool.specs.Chains.{page_of_frame, follower}
use Rattle.isp_pool.proofs.ChainLaws.{came_in_by, gap_in}
use Rattle.isp_pool.proofs.by_page.Chains.link.Goals as goal

pub invariant_of-self : goal.invariant_of-self
invariant_of-self c =
    let pages = c.self.inside.pages.items in
    let heads = c.self.inside.heads.items in
    let n : c.len.result ≡ length pages = let long = c.self.invariant.begun.long in omega (arith, c.len.ensures) in
    let frame : c.args.frame < length pages = subst (λ xs. c.args.frame < length xs) (sym c.self.view_is) c.requires.below in
    let free : page_of_frame pages c.args.frame ≡ None = ap (λ xs. page_of_frame xs c.args.frame) c.self.view_is ∙ c.requires.free in
    came_in_by pages heads c.self.inside.next.items c.point.new.heads.items c.point.new.next.items c.args.frame c.chain_of-chain.result c.args.p
    c.above-above.result c.follower.result c.self.invariant frame free
    (c.chain_of-chain.ensures.chain ∙ ap (λ k. c.args.p.0 % k) n) (omega (arith, c.chain_of-chain.ensures.below))
    (gap_in c.deref.result.now pages c.args.p c.args.frame c.above-above.result c.deref.ensures.value c.above-above.ensures) (c.follower.ensures ∙ ap (λ xs. follower xs c.deref-4.result.now c.chain_of-chain.result c.above-above.result) c.deref-3.ensures.value ∙ ap (λ xs. follower heads xs c.chain_of-chain.result c.above-above.result) c.deref-4.ensures.value) c.point.ensures.heads c.point.ensures.next
