use Rattle.std.proofs.Common.{rules, ℕ, ◌<◌, sym, ◌∙◌, ap, subst}
use Rattle.isp_page.specs.State.{FileShape}
use Rattle.isp_work.specs.Works.{took}
use Rattle.isp_work.specs.declared.progress.Progress.{Progress}
use Rattle.isp_exec.specs.Events.{event_by, refusal_in}
use Rattle.isp_exec.specs.Standing.{IsFit, height}
use Rattle.isp_exec.proofs.GoesLaws.{goes_as, goes_by}
use Rattle.isp_exec.proofs.ReadAtLaws.{place_read, read_answers, read_goes}
use Rattle.isp_exec.proofs.ReadFitLaws.{took_falls, took_fit}
use Rattle.isp_tables.proofs.TableLaws.{file_table, open_on}
use Rattle.isp_work.proofs.ReadLaws.{took_same}
use Rattle.isp_exec.proofs.stepping.step_reading.Goals as goal

pub returns-in_err-leaf-clause-sound : goal.returns-in_err-leaf-clause-sound
returns-in_err-leaf-clause-sound g c tells start at =
    let fit = c.requires.fit in
    let defs = c.args.tables.now in
    let work = c.args.work.now in
    let r = at.read c.requires.phase in
    let place = place_read at.db defs work at.pieces fit.def r at.opened.defs_are fit.is_there in
    let has = file_table g.P.Pages c.args.pages.now defs c.args.trx.now at.db work.place fit.def at.opened place in
    let sound = c.in_err-leaf.ensures.sound tells fit.def r.table at.pieces.left fit.is_there has r.left r.more r.few in
    search (rules, sound, c.from_residual.ensures)

pub returns-clause-goes : goal.returns-clause-goes
returns-clause-goes g c tells start at =
    let fit = c.requires.fit in
    let phase = c.requires.phase in
    let defs = c.args.tables.now in
    let trx = c.args.trx.now in
    let work = c.args.work.now in
    let old = c.args.pages.now in
    let new = c.read_next.new.pages in
    let leaf = c.in_ok-leaf.leaf in
    let r = at.read phase in
    let place = place_read at.db defs work at.pieces fit.def r at.opened.defs_are fit.is_there in
    let has = file_table g.P.Pages old defs trx at.db work.place fit.def at.opened place in
    let pages = ap (λ (shape : FileShape). shape.pages) c.in_ok-leaf.ensures.kept.keeps.same_shape in
    let opened = open_on g.P.Pages old new defs trx at.db pages (c.in_ok-leaf.ensures.contents tells) at.opened in
    let found = c.in_ok-leaf.ensures.found tells fit.def r.table at.pieces.left fit.is_there has r.left in
    let next = read_goes g.P.Pages old new defs trx start work at phase fit.def fit.is_there leaf found pages opened fit.first fit.reads_rows fit.sets in
    goes_as g.P.Pages old defs trx start work at new defs trx _ (took work leaf.found leaf.next trx.count) _ (event_by (refusal_in leaf.found))
    (c.in_ok-take.ensures.is ∙ ap (took work leaf.found leaf.next) c.undo_count.ensures) (c.event_by.ensures ∙ ap event_by c.refusal_in-refusal.ensures)
    (goes_by g.P.Pages old defs trx start work at new defs trx (refusal_in leaf.found) (took work leaf.found leaf.next trx.count)
    (record {
      next = next;
      answered = read_answers g.P.Pages old new defs trx start work at phase fit.def fit.is_there leaf found next.room;
      stated = (took_same work leaf.found leaf.next trx.count).statement;
    }))

pub returns-clause-fit : goal.returns-clause-fit
returns-clause-fit g c =
    let fit = c.requires.fit in
    let defs = c.args.tables.now in
    let leaf = c.in_ok-leaf.leaf in
    let pages = ap (λ (shape : FileShape). shape.pages) c.in_ok-leaf.ensures.kept.keeps.same_shape in
    subst (λ (n : ℕ). IsFit n defs c.take.new.self) (sym pages)
    (subst (IsFit (g.P.Pages.shape c.args.pages.now).pages defs) (sym c.in_ok-take.ensures.is)
    (took_fit (g.P.Pages.shape c.args.pages.now).pages defs c.args.work.now leaf.found leaf.next c.undo_count.result fit c.requires.phase (c.in_ok-leaf.ensures.rows fit.def fit.is_there) c.in_ok-leaf.ensures.inside))

pub returns-clause-falls : goal.returns-clause-falls
returns-clause-falls g c on =
    let work = c.args.work.now in
    let count = c.args.trx.now.count in
    let leaf = c.in_ok-leaf.leaf in
    subst (λ (w : Progress). height w count < height work count) (sym (c.in_ok-take.ensures.is ∙ ap (took work leaf.found leaf.next) c.undo_count.ensures))
    (took_falls work leaf.found leaf.next count c.requires.phase c.in_ok-leaf.ensures.budget c.in_ok-take.ensures.small)

pub returns-clause-statement : goal.returns-clause-statement
returns-clause-statement g c = ap (λ (w : Progress). w.statement) c.in_ok-take.ensures.is ∙ (took_same c.args.work.now c.in_ok-leaf.leaf.found c.in_ok-leaf.leaf.next c.undo_count.result).statement
