use Rattle.std.proofs.Common.{◌≡◌, ◌++◌, drop}
use Rattle.isp_plain.specs.Updating.{last_sets}
use Rattle.isp_plain.proofs.sets.last_sets.Given as goal

abbrev pub invariant-loop-i : goal.invariant-loop-i
invariant-loop-i l = l.kept ++ last_sets (drop l.i l.sets) ≡ last_sets l.sets
