use Rattle.std.proofs.Common.{◌∙◌, ap, subst}
use Rattle.std.specs.Prelude.{Ok}
use Rattle.std.proofs.lemmas.Result.{err_from_is_err_and}
use Rattle.isp_exec.specs.Events.{goes_on}
use Rattle.isp_page.specs.State.{FileShape}
use Rattle.isp_page.specs.Steps.{IsNoDamageOrLacks}
use Rattle.isp_plain.specs.declared.statement.Statement.{Statement}
use Rattle.isp_tables.proofs.KeepLaws.{keeps_as, keeps_on}
use Rattle.isp_connection.specs.Answering.{IsDone}
use Rattle.isp_connection.proofs.EndLaws.{err_sound}
use Rattle.isp_connection.proofs.RunLaws.{all_undone, ready_done, still_at, undid_more, undid_never}
use Rattle.isp_connection.proofs.running.run.Goals as goal

pub steps-preserved-in-Event : goal.steps-preserved-in-Event
steps-preserved-in-Event g c =
    let mid = c.steps.context in
    let new = c.step.new.context in
    let work = c.steps.work.progress in
    let work_now = c.step.new.self.progress in
    let did = c.in_ok-step.field-0 in
    let e = c.in_ok-step.ensures in
    let so = c.steps.invariant in (
      keeps_as g.P.Pages c.args.context.now.pages new.pages did tt (keeps_on g.P.Pages c.args.context.now.pages mid.pages new.pages tt (Ok did) so.0 e.kept),
      e.serves,
      e.fit,
      e.statement ∙ so.3,
      e.session ∙ so.4,
      λ tells d at.
          let before = so.5 tells d at in
          still_at g.P.Pages mid.pages mid.tables mid.trx d work before new.pages new.tables new.trx work_now did (ap goes_on c.in-Event.is) (e.goes tells d before),
      λ tells d opened rolls.
          let some = so.6 tells d opened rolls in
          undid_more g.P.Pages mid.pages new.pages mid.tables new.tables mid.trx new.trx work work_now d some (ap (λ (s : FileShape). s.pages) e.kept.same_shape) did (e.rolls tells some.after some.opened some.more) c.in-Event.is,
    )

pub steps-preserved : goal.steps-preserved
steps-preserved g c =
    let mid = c.steps.context in
    let new = c.step.new.context in
    let work = c.steps.work.progress in
    let work_now = c.step.new.self.progress in
    let did = c.in_ok-step.field-0 in
    let e = c.in_ok-step.ensures in
    let so = c.steps.invariant in (
      keeps_as g.P.Pages c.args.context.now.pages new.pages did tt (keeps_on g.P.Pages c.args.context.now.pages mid.pages new.pages tt (Ok did) so.0 e.kept),
      e.serves,
      e.fit,
      e.statement ∙ so.3,
      e.session ∙ so.4,
      λ tells d at.
          let before = so.5 tells d at in
          still_at g.P.Pages mid.pages mid.tables mid.trx d work before new.pages new.tables new.trx work_now did (ap goes_on c.in-Failing.is) (e.goes tells d before),
      λ tells d opened rolls.
          let some = so.6 tells d opened rolls in
          undid_never g.P.Pages mid.pages new.pages mid.tables new.tables mid.trx new.trx work work_now d some (ap (λ (s : FileShape). s.pages) e.kept.same_shape) did (e.rolls tells some.after some.opened some.more) c.in-Failing.number c.in-Failing.is,
    )

pub returns-in_err-step-clause-sound : goal.returns-in_err-step-clause-sound
returns-in_err-step-clause-sound g c tells d at =
    let sound = c.in_err-step.ensures.sound tells d (c.steps.invariant.5 tells d at) in
    let p = err_from_is_err_and c.from_residual.result c.from_residual.ensures.1 in
    err_sound IsNoDamageOrLacks c.from_residual.result c.in_err-step.field-0.0 p.0 p.1 p.2 sound

pub returns-in_err-step-clause-sound_back : goal.returns-in_err-step-clause-sound_back
returns-in_err-step-clause-sound_back g c tells d opened rolls =
    let some = c.steps.invariant.6 tells d opened rolls in
    let sound = c.in_err-step.ensures.back tells some.after some.opened some.more in
    let p = err_from_is_err_and c.from_residual.result c.from_residual.ensures.1 in
    err_sound IsNoDamageOrLacks c.from_residual.result c.in_err-step.field-0.0 p.0 p.1 p.2 sound

pub returns-in-Ready-clause-done : goal.returns-in-Ready-clause-done
returns-in-Ready-clause-done g c tells d at =
    let mid = c.steps.context in
    let new = c.step.new.context in
    let so = c.steps.invariant in
    let before = so.5 tells d at in
    subst (λ (s : Statement). IsDone g.P.Pages new.pages new.tables new.trx s d c.in-Ready.reply) so.3
    (ready_done g.P.Pages mid.pages mid.tables mid.trx d c.steps.work.progress before new.pages new.tables new.trx c.step.new.self.progress c.in_ok-step.field-0 c.in-Ready.reply c.in-Ready.is
    (c.in_ok-step.ensures.goes tells d before))

pub returns-in-Ready-clause-back : goal.returns-in-Ready-clause-back
returns-in-Ready-clause-back g c tells d opened rolls =
    let mid = c.steps.context in
    let new = c.step.new.context in
    let e = c.in_ok-step.ensures in
    let some = c.steps.invariant.6 tells d opened rolls in
    all_undone g.P.Pages mid.pages new.pages mid.tables new.tables mid.trx new.trx c.steps.work.progress c.step.new.self.progress d some (ap (λ (s : FileShape). s.pages) e.kept.same_shape)
    c.in_ok-step.field-0 (e.rolls tells some.after some.opened some.more) c.in-Ready.reply c.in-Ready.is
