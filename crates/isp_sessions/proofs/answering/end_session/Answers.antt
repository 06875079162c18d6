use Rattle.isp_connection.specs.Connections.{state_of}
use Rattle.isp_serial.specs.Alone.{rolled_back}
use Rattle.isp_sessions.proofs.ReplyLaws.{ended_and_printed}
use Rattle.isp_sessions.proofs.answering.end_session.Goals as goal

pub returns-in-Ok-clause-ended : goal.returns-in-Ok-clause-ended
returns-in-Ok-clause-ended g c = λ tells d state holds.
    let old = c.args.connection.now in
    let mid = c.roll_back.new.self in
    let new = c.print_reply.new.connection in
    let comes = c.in-Ok.ensures.back tells d state holds in
    ended_and_printed g.P.Pages d mid.context.trx.session old.context.trx.session c.args.number c.in-Ok.ensures.session old.context.pages mid.context.pages new.context.pages
    state (state_of mid) (state_of new) c.print_reply.result
    c.in-Ok.ensures.kept.silent c.in-Ok.ensures.kept.same_shape comes (c.print_reply.ensures.printed tells comes.after (rolled_back state) comes.holds)

pub returns-in-Ok-clause-sound : goal.returns-in-Ok-clause-sound
returns-in-Ok-clause-sound g c = λ tells d state holds.
    let comes = c.in-Ok.ensures.back tells d state holds in
    c.print_reply.ensures.sound tells comes.after (rolled_back state) comes.holds
