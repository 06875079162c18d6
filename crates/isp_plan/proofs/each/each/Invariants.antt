use Rattle.std.proofs.Common.{◌≡◌, drop}
use Rattle.isp_plan.specs.Refusals.{each}
use Rattle.isp_plan.proofs.EachLaws.{with_front}
use Rattle.isp_plan.proofs.each.each.Given as goal

abbrev pub invariant-loop-item : goal.invariant-loop-item
invariant-loop-item g l = with_front l.found (each (λ item. g.T.Bound.meaning item l.columns) (drop l.item-index l.items)) ≡ each (λ item. g.T.Bound.meaning item l.columns) l.items
