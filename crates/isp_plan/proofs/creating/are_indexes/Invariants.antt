use Rattle.std.proofs.Common.{◌≡◌, drop}
use Rattle.isp_plan.specs.Creating.{are_indexes}
use Rattle.isp_plan.proofs.creating.are_indexes.Given as goal

abbrev pub invariant-loop-i : goal.invariant-loop-i
invariant-loop-i l = are_indexes l.columns (drop l.i l.names) ≡ are_indexes l.columns l.names
