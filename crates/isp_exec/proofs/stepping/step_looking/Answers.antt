use Rattle.std.proofs.Common.{rules, ◌∙◌, ap}
use Rattle.isp_page.specs.State.{FileShape}
use Rattle.isp_work.specs.Works.{looked_by}
use Rattle.isp_work.specs.declared.progress.Progress.{Progress}
use Rattle.isp_exec.specs.Events.{event_by, refusal_of_look}
use Rattle.isp_exec.proofs.AtLaws.{looked_at}
use Rattle.isp_exec.proofs.GoesLaws.{goes_as, goes_by}
use Rattle.isp_tables.proofs.TableLaws.{at_place, file_table, open_on, plain_at}
use Rattle.isp_exec.proofs.StatementLaws.{looked_keeps}
use Rattle.isp_exec.proofs.stepping.step_looking.Goals as goal

pub returns-in_err-looked-clause-sound : goal.returns-in_err-looked-clause-sound
returns-in_err-looked-clause-sound g c tells start at =
    let fit = c.requires.fit in
    let place = at_place at.db c.args.tables.now c.args.work.now.place fit.def at.opened.defs_are fit.is_there in
    let has = file_table g.P.Pages c.args.pages.now c.args.tables.now c.args.trx.now at.db c.args.work.now.place fit.def at.opened place in
    let sound = c.in_err-looked.ensures.sound tells fit.def place.table fit.is_there has in
    search (rules, sound, c.from_residual.ensures)

pub returns-clause-goes : goal.returns-clause-goes
returns-clause-goes g c tells start at =
    let fit = c.requires.fit in
    let defs = c.args.tables.now in
    let trx = c.args.trx.now in
    let work = c.args.work.now in
    let old = c.args.pages.now in
    let new = c.look_next.new.pages in
    let looked = c.in_ok-looked.looked in
    let place = at_place at.db defs work.place fit.def at.opened.defs_are fit.is_there in
    let has = file_table g.P.Pages old defs trx at.db work.place fit.def at.opened place in
    let pages = ap (λ (shape : FileShape). shape.pages) c.in_ok-looked.ensures.kept.keeps.same_shape in
    let opened = open_on g.P.Pages old new defs trx at.db pages (c.in_ok-looked.ensures.contents tells) at.opened in
    goes_as g.P.Pages old defs trx start work at new defs trx _ (looked_by work looked trx.count) _ (event_by (refusal_of_look looked))
    (c.look_on.ensures ∙ ap (looked_by work looked) c.undo_count.ensures) (c.event_by.ensures ∙ ap event_by c.refusal_of_look.ensures)
    (goes_by g.P.Pages old defs trx start work at new defs trx (refusal_of_look looked) (looked_by work looked trx.count)
    (looked_at g.P.Pages old new defs trx start work at pages opened place.table looked c.requires.phase (plain_at at.db work.place fit.def place)
    (c.in_ok-looked.ensures.looked tells fit.def place.table fit.is_there has)))

pub returns-clause-statement : goal.returns-clause-statement
returns-clause-statement g c = ap (λ (w : Progress). w.statement) c.look_on.ensures ∙ looked_keeps c.args.work.now _ _
