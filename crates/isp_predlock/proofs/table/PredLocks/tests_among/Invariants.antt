use Rattle.std.proofs.Common.{◌≡◌, ◌+◌, ◌≤◌, drop, filter_map, length}
use Rattle.isp_predlock.specs.Tables.{at_id}
use Rattle.isp_predlock.specs.Testing.{tested}
use Rattle.isp_predlock.proofs.table.PredLocks.tests_among.Given as goal

abbrev pub invariant-loop-id : goal.invariant-loop-id
invariant-loop-id l =
    (l.count + length (filter_map (at_id l.self.searches (tested l.placing l.more)) (drop l.id-index l.ids))
    ≡ length (filter_map (at_id l.self.searches (tested l.placing l.more)) l.ids))
    × (l.count ≤ l.id-index)
