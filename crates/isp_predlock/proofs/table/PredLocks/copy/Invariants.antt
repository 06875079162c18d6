use Rattle.std.proofs.Common.{◌≡◌, ◌+◌, ◌≤◌, map, take}
use Rattle.isp_predlock.specs.Tables.{id_of}
use Rattle.isp_predlock.proofs.CallLaws.{copied_among}
use Rattle.isp_predlock.proofs.table.PredLocks.copy.Given as goal

abbrev pub invariant-loop-i : goal.invariant-loop-i
invariant-loop-i l = record {
  searches : l.self.searches ≡ map (copied_among (take l.i (map id_of l.fn.self.searches)) l.from.0 l.to.0 l.b) l.fn.self.searches;
  spare : l.fn.self.spare ≤ l.self.spare + l.i;
}
