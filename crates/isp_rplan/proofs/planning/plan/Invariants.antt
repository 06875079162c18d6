use Rattle.std.proofs.Common.{length, reverse}
use Rattle.isp_rplan.specs.declared.steps.Carry.TheVariants.{Added}
use Rattle.isp_rplan.proofs.BoxLaws.{PlansWith}
use Rattle.isp_rplan.proofs.planning.plan.Given as goal

abbrev pub invariant-up : goal.invariant-up
invariant-up l = PlansWith l.fanout l.b (reverse l.fn.path.items) (Added l.b) (reverse l.pages.items) l.carry (reverse l.steps.items)

abbrev pub decreases-up : goal.decreases-up
decreases-up l = length l.pages.items
