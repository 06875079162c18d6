use Rattle.std.proofs.Common.{true, false, sym, ◌∙◌}
use Rattle.isp_predlock.proofs.CallLaws.{blocking_at}
use Rattle.isp_predlock.proofs.table.PredLocks.blocking.Goals as goal

pub returns-then-satisfies : goal.returns-then-satisfies
returns-then-satisfies c =
    blocking_at c.args.placing.now c.args.more.now c.args.self.now.searches c.args.id.0 c.in_ok-on.on true (sym c.satisfies.ensures ∙ c.if-satisfies.true)
    (sym c.in_ok-on.was ∙ c.tested.ensures)

pub returns-else-satisfies : goal.returns-else-satisfies
returns-else-satisfies c =
    blocking_at c.args.placing.now c.args.more.now c.args.self.now.searches c.args.id.0 c.in_ok-on.on false (sym c.satisfies.ensures ∙ c.if-satisfies.false)
    (sym c.in_ok-on.was ∙ c.tested.ensures)
