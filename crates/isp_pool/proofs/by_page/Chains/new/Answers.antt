use Rattle.std.proofs.Common.{length, subst, sym, ap, ◌∙◌, None}
use Rattle.std.proofs.lemmas.List.{length-replicate}
use Rattle.isp_pool.specs.Chains.{IsChained}
use Rattle.isp_pool.proofs.ChainLaws.{none_linked}
use Rattle.isp_pool.proofs.by_page.Chains.new.Goals as goal

pub invariant_of-result : goal.invariant_of-result
invariant_of-result c =
    let n = c.args.frames in
    let pages = c.in_ok-pages.pages.items in
    let heads = c.in_ok-heads.heads.items in
    let next = c.in_ok-next.next.items in
    subst (λ k. IsChained k pages heads next) (sym (ap length c.in_ok-pages.ensures ∙ length-replicate n None))
    (none_linked n pages heads next c.requires c.in_ok-pages.ensures c.in_ok-heads.ensures c.in_ok-next.ensures)
