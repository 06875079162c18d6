use Rattle.std.proofs.Common.{◌∙◌, ◌==◌, ◌<◌, not, filter, length, ap, arith, rules}
use Rattle.isp_waits.specs.Graphs.{waits_of}
use Rattle.isp_waits.proofs.Lists.{waits_set_same, waits_set_other, list_at, filter_from_turns}
use Rattle.isp_waits.proofs.graph.Waits.forget.Goals as goal

pub returns-clause-own : goal.returns-clause-own
returns-clause-own c =
    let e = c.self.invariant in
    let lt : c.args.k < length c.self.inside.lists = omega arith in
    waits_set_same c.self.inside.lists c.args.k _ lt
    ∙ filter_from_turns _ (λ b. not (b == c.args.s)) _ (λ x b t y h. search rules) _ _ c.retain.ensures.filtered
    ∙ ap (filter (λ b. not (b == c.args.s)))
    (list_at c.self.inside.lists c.args.k c.index-self-k.result lt ∙ ap (λ w. waits_of w c.args.k) c.self.view_is)

pub returns-clause-others : goal.returns-clause-others
returns-clause-others c =
    λ j ne. waits_set_other c.self.inside.lists c.args.k j _ ne ∙ ap (λ w. waits_of w j) c.self.view_is
