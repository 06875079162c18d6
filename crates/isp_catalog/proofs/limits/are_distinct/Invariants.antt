use Rattle.std.proofs.Common.{◌≡◌, drop}
use Rattle.isp_catalog.specs.Limits.{are_distinct}
use Rattle.isp_catalog.proofs.limits.are_distinct.Given as goal

abbrev pub invariant-loop-i : goal.invariant-loop-i
invariant-loop-i l = are_distinct (drop l.i l.columns) ≡ are_distinct l.columns
