use Rattle.std.proofs.Common.{◌≡◌, ◌+◌, ◌≤◌, drop, map, true}
use Rattle.isp_predlock.specs.Tables.{are_there, with_pages}
use Rattle.isp_predlock.proofs.table.PredLocks.attach_all.Given as goal

abbrev pub invariant-loop-found : goal.invariant-loop-found
invariant-loop-found l = record {
  searches : map (with_pages (drop l.found-index l.list)) l.self.searches ≡ map (with_pages l.list) l.fn.self.searches;
  there : are_there l.self.searches (drop l.found-index l.list) ≡ true;
  spare : l.fn.self.spare ≤ l.self.spare + l.found-index;
}
