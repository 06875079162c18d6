use Rattle.std.proofs.Common.{rules, ℕ, refl, ◌∙◌, ap, subst}
use Rattle.std.specs.Prelude.{None, nat_lt}
use Rattle.isp_page.specs.State.{FileShape}
use Rattle.isp_work.specs.Works.{failed_by}
use Rattle.isp_work.specs.declared.progress.Progress.{Progress}
use Rattle.isp_writes.specs.Writing.{UndidOrNot, fewer}
use Rattle.isp_exec.specs.declared.step.Step.TheVariants.{Event}
use Rattle.isp_exec.proofs.AtLaws.{undo_at}
use Rattle.isp_exec.proofs.GoesLaws.{goes_as, goes_by}
use Rattle.isp_exec.proofs.StatementLaws.{failed_keeps}
use Rattle.isp_exec.proofs.stepping.step_undoing.Goals as goal

pub returns-in_err-undo_newest-clause-sound : goal.returns-in_err-undo_newest-clause-sound
returns-in_err-undo_newest-clause-sound g c tells start at =
    let sound = c.in_err-undo_newest.ensures.sound tells at.db at.opened in
    search (rules, sound, c.from_residual.ensures)

pub returns-clause-goes : goal.returns-clause-goes
returns-clause-goes g c tells start at =
    let work = c.args.work.now in
    let trx = c.args.trx.now in
    let defs = c.args.tables.now in
    let now = c.undo_newest.new.trx in
    let old = c.args.pages.now in
    let new = c.undo_newest.new.pages in
    let refusal = c.args.refusal in
    let pages = ap (λ (shape : FileShape). shape.pages) c.in_ok-undo_newest.ensures.kept.same_shape in
    let did = subst (λ (k : ℕ). UndidOrNot g.P.Pages new defs now (nat_lt k trx.count) at.db) c.base.ensures (c.in_ok-undo_newest.ensures.undone tells at.db at.opened) in
    let notes = c.in_ok-undo_newest.ensures.notes ∙ ap (λ (k : ℕ). fewer k trx.count) c.base.ensures in
    goes_as g.P.Pages old defs trx start work at new defs now _ (failed_by work refusal now.count) _ Event
    (c.fail.ensures ∙ ap (failed_by work refusal) c.undo_count.ensures) refl
    (goes_by g.P.Pages old defs trx start work at new defs now None (failed_by work refusal now.count)
    (undo_at g.P.Pages old new defs trx now start work at pages refusal c.requires.phase (nat_lt work.base trx.count) refl notes did))

pub returns-clause-statement : goal.returns-clause-statement
returns-clause-statement g c = ap (λ (w : Progress). w.statement) c.fail.ensures ∙ failed_keeps c.args.work.now _ _
