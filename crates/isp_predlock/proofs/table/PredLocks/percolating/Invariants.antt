use Rattle.std.proofs.Common.{◌≡◌, drop, true}
use Rattle.isp_predlock.specs.Entering.{percolating_after, percolating_on}
use Rattle.isp_predlock.specs.Tables.{are_there}
use Rattle.isp_predlock.proofs.table.PredLocks.percolating.Given as goal

abbrev pub invariant-loop-growing : goal.invariant-loop-growing
invariant-loop-growing l = record {
  list : percolating_after l.self.searches (drop l.growing-index l.grown) l.list.items ≡ percolating_on l.self.searches l.grown;
  there : are_there l.self.searches l.list.items ≡ true;
}
