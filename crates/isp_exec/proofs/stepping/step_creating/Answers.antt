use Rattle.std.proofs.Common.{rules, ◌<◌, ℕ, sym, ◌∙◌, ap, subst}
use Rattle.isp_page.specs.State.{FileShape}
use Rattle.isp_work.specs.Works.{made_by}
use Rattle.isp_work.specs.declared.progress.Progress.{Progress}
use Rattle.isp_tables.specs.Creations.{IsCreatable}
use Rattle.isp_exec.specs.Events.{IsFlushedAt}
use Rattle.isp_exec.specs.Standing.{IsFit, height}
use Rattle.isp_exec.proofs.AnswerLaws.{given_by}
use Rattle.isp_exec.proofs.AtLaws.{created_at}
use Rattle.isp_exec.proofs.GoesLaws.{goes_as, handed_by, handed_fit, handed_height, handed_made, hands_out, made_flushed}
use Rattle.isp_exec.proofs.HeightLaws.{made_falls}
use Rattle.isp_exec.proofs.stepping.step_creating.Goals as goal

pub returns-in_err-made-clause-sound : goal.returns-in_err-made-clause-sound
returns-in_err-made-clause-sound g c tells start at =
    let sound = c.in_err-made.ensures.sound tells c.args.trx.now at.db at.opened in
    search (rules, sound, c.from_residual.ensures)

pub returns-clause-goes : goal.returns-clause-goes
returns-clause-goes g c tells start at =
    let work = c.args.work.now in
    let trx = c.args.trx.now in
    let old = c.args.pages.now in
    let new = c.create.new.pages in
    let tables = c.create.new.tables in
    let made = c.in_ok-made.made in
    let pages = ap (λ (shape : FileShape). shape.pages) c.in_ok-made.ensures.kept.same_shape in
    let is = c.make_on.ensures ∙ ap (made_by work made) c.undo_count.ensures in
    goes_as g.P.Pages old c.args.tables.now trx start work at new tables trx _ (handed_by (made_by work made trx.count)) _ (given_by (made_by work made trx.count))
    (c.hand_out.ensures.rest ∙ ap handed_by is) (c.hand_out.ensures.result ∙ ap given_by is)
    (hands_out g.P.Pages old c.args.tables.now trx start work at new tables trx (made_by work made trx.count)
    (created_at g.P.Pages old new c.args.tables.now tables trx start work at pages c.requires.phase c.statement.result.now made (sym c.statement.ensures)
    (subst (IsCreatable c.args.tables.now) (sym c.statement.ensures) c.requires.fit) (c.in_ok-made.ensures.created tells trx at.db at.opened)))

pub returns-clause-fit : goal.returns-clause-fit
returns-clause-fit g c =
    let work = c.args.work.now in
    let made = c.in_ok-made.made in
    subst (IsFit _ c.create.new.tables) (sym (c.hand_out.ensures.rest ∙ ap handed_by c.make_on.ensures)) (handed_fit _ c.create.new.tables work made c.undo_count.result)

pub returns-clause-falls : goal.returns-clause-falls
returns-clause-falls g c on =
    let work = c.args.work.now in
    let trx = c.args.trx.now in
    let made = c.in_ok-made.made in
    let is = c.hand_out.ensures.rest ∙ ap handed_by (c.make_on.ensures ∙ ap (made_by work made) c.undo_count.ensures) in
    subst (λ (n : ℕ). n < height work trx.count) (sym (ap (λ (w : Progress). height w trx.count) is ∙ handed_height (made_by work made trx.count) trx.count))
    (made_falls work made trx.count c.requires.phase)

pub returns-clause-statement : goal.returns-clause-statement
returns-clause-statement g c = ap (λ (w : Progress). w.statement) (c.hand_out.ensures.rest ∙ ap handed_by c.make_on.ensures) ∙ handed_made c.args.work.now c.in_ok-made.made _

pub returns-clause-flushed : goal.returns-clause-flushed
returns-clause-flushed g c tells =
    let new = c.create.new.pages in
    subst (IsFlushedAt g.P.Pages new) (sym (c.hand_out.ensures.result ∙ ap given_by c.make_on.ensures))
    (made_flushed g.P.Pages new c.args.work.now c.in_ok-made.made c.undo_count.result (c.in_ok-made.ensures.flushed tells))
