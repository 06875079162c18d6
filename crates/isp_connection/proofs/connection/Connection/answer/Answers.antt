use Rattle.std.proofs.Common.{rules, subst}
use Rattle.isp_plain.specs.declared.statement.Statement.{Statement}
use Rattle.isp_serial.specs.Serial.{place_at}
use Rattle.isp_connection.specs.Answering.{Answered}
use Rattle.isp_connection.specs.Connections.{state_of}
use Rattle.isp_connection.proofs.MeantLaws.{may_mean, meant_is}
use Rattle.isp_connection.proofs.SuitLaws.{suits}
use Rattle.isp_connection.proofs.connection.Connection.answer.Goals as goal

pub obey-requires-clause-suits : goal.obey-requires-clause-suits
obey-requires-clause-suits g c =
    let now = c.args.self.now in
    suits now.context.tables (place_at now.context.trx.session now.inside) c.args.text.now c.in_ok-statement.statement c.in_ok-statement.ensures c.requires.serves.keyed

pub returns-in_err-reply-clause-sound : goal.returns-in_err-reply-clause-sound
returns-in_err-reply-clause-sound g c tells d state h =
    let now = c.args.self.now in
    let s = c.in_ok-statement.statement in
    let meant = meant_is g.P.Pages now.context.pages (state_of now) state d c.args.text.now s h c.in_ok-statement.ensures in
    let sound = c.in_err-reply.ensures.sound tells d state h (may_mean g.P.Pages now.context.pages (state_of now) state d c.args.text.now s h meant) in
    search (rules, sound, c.from_residual-in_err-reply.ensures)

pub returns-clause-answered : goal.returns-clause-answered
returns-clause-answered g c tells d state h =
    let now = c.args.self.now in
    let new = c.obey.new.self in
    let s = c.in_ok-statement.statement in
    let meant = meant_is g.P.Pages now.context.pages (state_of now) state d c.args.text.now s h c.in_ok-statement.ensures in
    let answered = c.in_ok-reply.ensures.answered tells d state h (may_mean g.P.Pages now.context.pages (state_of now) state d c.args.text.now s h meant) in
    subst (λ (t : Statement). Answered g.P.Pages new.context.pages (state_of new) state t d c.in_ok-reply.reply) meant answered
