use Rattle.std.proofs.Common.{◌≡◌, drop}
use Rattle.isp_plan.specs.Creating.{are_distinct}
use Rattle.isp_plan.proofs.creating.are_distinct.Given as goal

abbrev pub invariant-loop-i : goal.invariant-loop-i
invariant-loop-i l = are_distinct (drop l.i l.columns) ≡ are_distinct l.columns
