use Rattle.std.proofs.Common.{slice_get, sym, ◌∙◌, ap}
use Rattle.isp_tables.proofs.TableLaws.{at_place}
use Rattle.isp_work.specs.Works.{rows_named}
use Rattle.isp_exec.proofs.NextLaws.{none_left, row_changed, row_writable}
use Rattle.isp_exec.proofs.changing.change_next.Goals as goal

pub returns-in-Some-row-clause-changed : goal.returns-in-Some-row-clause-changed
returns-in-Some-row-clause-changed g c tells d opened writable =
    let work = c.args.work.now in
    let defs = c.args.tables.now in
    let row = c.in-Some-row.row.now in
    let place = at_place d defs work.place c.in-Some.def.now opened.defs_are (sym (c.in-Some.ensures ∙ ap (slice_get defs) c.place.ensures)) in
    row_changed work row c.deletes.result d c.in-Some-row.ensures c.deletes.ensures g.P.Pages c.change_at.new.pages defs c.change_at.new.trx c.change_at.result
    (c.change_at.ensures.changed tells defs d work.place opened place (row_writable work row c.deletes.result d c.in-Some-row.ensures c.deletes.ensures writable))

pub returns-in-Some-row-clause-sound : goal.returns-in-Some-row-clause-sound
returns-in-Some-row-clause-sound g c tells d opened writable =
    let work = c.args.work.now in
    let defs = c.args.tables.now in
    let place = at_place d defs work.place c.in-Some.def.now opened.defs_are (sym (c.in-Some.ensures ∙ ap (slice_get defs) c.place.ensures)) in
    c.change_at.ensures.sound tells defs d work.place opened place
    (row_writable work c.in-Some-row.row.now c.deletes.result d c.in-Some-row.ensures c.deletes.ensures writable)

pub returns-in-None-row-clause-next : goal.returns-in-None-row-clause-next
returns-in-None-row-clause-next g c = let work = c.args.work.now in none_left (rows_named work.statement work.rows) work.next c.in-None-row.ensures
