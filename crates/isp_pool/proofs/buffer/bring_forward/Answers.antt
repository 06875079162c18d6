use Rattle.std.proofs.Common.{sym, ap, ◌∙◌}
use Rattle.isp_recency.proofs.RecentLaws.{without_absent, list_of}
use Rattle.std.proofs.Common.{◌∷◌}
use Rattle.isp_pool.proofs.buffer.bring_forward.Goals as goal

pub returns-else-there : goal.returns-else-there
returns-else-there c =
    let r = c.args.recency.now in
    c.push_front.ensures ∙ ap (λ xs. list_of r.size (c.args.i ∷ xs)) (sym (without_absent c.args.i r.members (c.requires.there ∙ c.if-there.false)))
