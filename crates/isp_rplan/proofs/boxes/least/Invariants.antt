use Rattle.std.proofs.Common.{◌≤◌, length}
use Rattle.isp_rplan.proofs.BoxLaws.{IsRound}
use Rattle.isp_rplan.proofs.boxes.least.Given as goal

abbrev pub invariant-round : goal.invariant-round
invariant-round l = record {
  some : 1 ≤ l.i;
  within : l.i ≤ length l.entries;
  round : IsRound l.entries l.i l.round;
}

abbrev pub decreases-round : goal.decreases-round
decreases-round l = l.i
