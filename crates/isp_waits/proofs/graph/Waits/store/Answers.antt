use Rattle.std.proofs.Common.{◌∙◌, ap, arith}
use Rattle.isp_waits.specs.Graphs.{waits_of}
use Rattle.isp_waits.proofs.Lists.{waits_set_same, waits_set_other}
use Rattle.isp_waits.proofs.graph.Waits.store.Goals as goal

pub returns-clause-own : goal.returns-clause-own
returns-clause-own c = waits_set_same c.self.inside.lists c.args.s c.args.list (let e = c.self.invariant in omega arith)

pub returns-clause-others : goal.returns-clause-others
returns-clause-others c =
    λ k ne. waits_set_other c.self.inside.lists c.args.s k c.args.list ne ∙ ap (λ w. waits_of w k) c.self.view_is
