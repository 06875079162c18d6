use Rattle.std.proofs.Common.{sym, ◌∙◌, ap, subst}
use Rattle.std.proofs.lemmas.Result.{err_from_is_err_and}
use Rattle.isp_page.specs.State.{FileShape}
use Rattle.isp_page.specs.Steps.{IsNoDamageOrLacks}
use Rattle.isp_plain.specs.declared.statement.Statement.{Statement}
use Rattle.isp_connection.specs.Answering.{IsDone}
use Rattle.isp_connection.specs.Connections.{ConnectionState, state_of}
use Rattle.isp_connection.proofs.EndLaws.{answered_done, at_rest, err_sound, no_rollback}
use Rattle.isp_connection.proofs.connection.Connection.execute.Goals as goal

pub run-requires-clause-fit : goal.run-requires-clause-fit
run-requires-clause-fit g c = c.start-work.ensures.fit c.requires.suits

pub returns-in_err-reply-clause-sound : goal.returns-in_err-reply-clause-sound
returns-in_err-reply-clause-sound g c tells d state h may =
    let begins = c.start-work.ensures.begins tells d h.opened c.requires.suits may.lined (no_rollback c.args.statement c.requires.stays) in
    let sound = c.in_err-reply.ensures.sound tells d begins.at in
    let p = err_from_is_err_and c.from_residual.result c.from_residual.ensures.1 in
    err_sound IsNoDamageOrLacks c.from_residual.result c.in_err-reply.field-0.0 p.0 p.1 p.2 sound

pub returns-in_err-settle-clause-sound : goal.returns-in_err-settle-clause-sound
returns-in_err-settle-clause-sound g c tells d state h may =
    let begins = c.start-work.ensures.begins tells d h.opened c.requires.suits may.lined (no_rollback c.args.statement c.requires.stays) in
    let done = c.in_ok-reply.ensures.done tells d begins.at in
    let sound = c.in_err-settle.ensures.sound tells c.run.new.context.tables done.after done.opened in
    let p = err_from_is_err_and c.from_residual-in_err-settle.result c.from_residual-in_err-settle.ensures.1 in
    err_sound IsNoDamageOrLacks c.from_residual-in_err-settle.result c.in_err-settle.field-0.0 p.0 p.1 p.2 sound

pub returns-clause-answered : goal.returns-clause-answered
returns-clause-answered g c tells d state h may =
    let old = c.args.self.now in
    let mid = c.run.new.context in
    let r = c.in_ok-reply.ensures in
    let e = c.in_ok-settle.ensures in
    let now : ConnectionState = record { inside = old.inside; defs = mid.tables; trx = c.settle.new.trx } in
    let begins = c.start-work.ensures.begins tells d h.opened c.requires.suits may.lined (no_rollback c.args.statement c.requires.stays) in
    let done = subst (λ (s : Statement). IsDone g.P.Pages mid.pages mid.tables mid.trx s d c.in_ok-reply.reply) c.start-work.ensures.statement (r.done tells d begins.at) in
    answered_done g.P.Pages mid.pages c.settle.new.pages now mid.trx state d c.args.statement c.in_ok-reply.reply done c.requires.stays
    h.present (λ outside. at_rest g.P.Pages old.context.pages (state_of old) state d h outside) h.committed_are (λ zero. h.setup (sym (e.session ∙ r.session) ∙ zero)) h.inside
    (ap (λ (shape : FileShape). shape.pages) e.kept.same_shape) old.inside (sym h.inside) (λ inside. may.outside (sym h.inside ∙ inside))
    (e.settled tells mid.tables done.after done.opened)
