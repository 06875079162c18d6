use Rattle.std.proofs.Common.{length}
use Rattle.std.specs.Prelude.{vec_capacity}
use Rattle.isp_rsettle.proofs.WayLaws.{OnWay}
use Rattle.isp_rsettle.proofs.settling.settle.Given as goal

abbrev pub invariant-up : goal.invariant-up
invariant-up l = OnWay l.fn.steps.items l.news l.fn.counter l.fn.to l.steps.items l.at.counter l.at.to l.at.taken l.writes.items l.parted.items (vec_capacity l.writes) (vec_capacity l.parted)

abbrev pub decreases-up : goal.decreases-up
decreases-up l = length l.steps.items
