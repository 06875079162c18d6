use Rattle.std.proofs.Common.{◌≡◌, ◌++◌, drop, filter_map}
use Rattle.isp_predlock.specs.Tables.{at_id, told_on}
use Rattle.isp_predlock.proofs.table.PredLocks.on_page_among.Given as goal

abbrev pub invariant-loop-id : goal.invariant-loop-id
invariant-loop-id l =
    l.list.items ++ filter_map (at_id l.self.searches (told_on l.page.0)) (drop l.id-index l.ids)
    ≡ filter_map (at_id l.self.searches (told_on l.page.0)) l.ids
