use Rattle.std.proofs.Common.{rules, ◌∙◌, ap}
use Rattle.isp_page.specs.State.{FileShape}
use Rattle.isp_work.specs.Works.{changed_by}
use Rattle.isp_work.specs.declared.progress.Progress.{Progress}
use Rattle.isp_exec.specs.Events.{event_by, refusal_of_change}
use Rattle.isp_exec.specs.Standing.{writes}
use Rattle.isp_exec.proofs.ChangeAtLaws.{changed_at, next_writable}
use Rattle.isp_exec.proofs.GoesLaws.{goes_as, goes_by}
use Rattle.isp_exec.proofs.StatementLaws.{changed_keeps}
use Rattle.isp_exec.proofs.stepping.step_changing.Goals as goal

pub returns-in_err-changed-clause-sound : goal.returns-in_err-changed-clause-sound
returns-in_err-changed-clause-sound g c tells start at =
    let sound = c.in_err-changed.ensures.sound tells at.db at.opened (next_writable c.args.work.now at.db (at.writable (ap writes c.requires.phase))) in
    search (rules, sound, c.from_residual.ensures)

pub returns-clause-goes : goal.returns-clause-goes
returns-clause-goes g c tells start at =
    let work = c.args.work.now in
    let trx = c.args.trx.now in
    let defs = c.args.tables.now in
    let now = c.change_next.new.trx in
    let old = c.args.pages.now in
    let new = c.change_next.new.pages in
    let changed = c.in_ok-changed.changed in
    let pages = ap (λ (shape : FileShape). shape.pages) c.in_ok-changed.ensures.kept.same_shape in
    let did = c.in_ok-changed.ensures.changed tells at.db at.opened (next_writable work at.db (at.writable (ap writes c.requires.phase))) in
    goes_as g.P.Pages old defs trx start work at new defs now _ (changed_by work changed now.count) _ (event_by (refusal_of_change changed))
    (c.change_on.ensures ∙ ap (changed_by work changed) c.undo_count.ensures) (c.event_by.ensures ∙ ap event_by c.refusal_of_change.ensures)
    (goes_by g.P.Pages old defs trx start work at new defs now (refusal_of_change changed) (changed_by work changed now.count)
    (changed_at g.P.Pages old new defs trx now start work at pages c.requires.phase changed c.in_ok-changed.ensures.next c.in_ok-changed.ensures.notes did))

pub returns-clause-statement : goal.returns-clause-statement
returns-clause-statement g c = ap (λ (w : Progress). w.statement) c.change_on.ensures ∙ changed_keeps c.args.work.now _ _
