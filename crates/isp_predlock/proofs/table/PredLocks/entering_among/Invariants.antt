use Rattle.std.proofs.Common.{◌≡◌, ◌++◌, drop, filter_map}
use Rattle.isp_predlock.specs.Tables.{at_id}
use Rattle.isp_predlock.specs.Entering.{entered}
use Rattle.isp_predlock.proofs.table.PredLocks.entering_among.Given as goal

abbrev pub invariant-loop-id : goal.invariant-loop-id
invariant-loop-id l =
    l.list.items ++ filter_map (at_id l.self.searches (entered l.found l.growing)) (drop l.id-index l.ids)
    ≡ filter_map (at_id l.self.searches (entered l.found l.growing)) l.ids
