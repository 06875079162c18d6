use Rattle.std.proofs.Common.{◌≡◌, ◌++◌, drop, filter_map}
use Rattle.isp_predlock.specs.Tables.{at_id}
use Rattle.isp_predlock.specs.Testing.{blocking}
use Rattle.isp_predlock.proofs.table.PredLocks.blocking_among.Given as goal

abbrev pub invariant-loop-id : goal.invariant-loop-id
invariant-loop-id l =
    l.list.items ++ filter_map (at_id l.self.searches (blocking l.placing l.more)) (drop l.id-index l.ids)
    ≡ filter_map (at_id l.self.searches (blocking l.placing l.more)) l.ids
