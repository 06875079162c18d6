use Rattle.std.proofs.Common.{◌≡◌, drop}
use Rattle.std.specs.List.{fold}
use Rattle.isp_plain.specs.Does.{with_set}
use Rattle.isp_scan.proofs.sets.with_sets.Given as goal

abbrev pub invariant-loop-set : goal.invariant-loop-set
invariant-loop-set l = fold with_set l.values (drop l.set-index l.sets) ≡ fold with_set l.row.values l.sets
