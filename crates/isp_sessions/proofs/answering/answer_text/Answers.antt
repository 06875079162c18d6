use Rattle.isp_connection.specs.Answering.{meant, state_or_full}
use Rattle.isp_connection.specs.Connections.{state_of}
use Rattle.isp_sessions.proofs.ReplyLaws.{answered_and_printed, answered_in_part}
use Rattle.isp_sessions.proofs.answering.answer_text.Goals as goal

pub returns-in-Ok-clause-answered : goal.returns-in-Ok-clause-answered
returns-in-Ok-clause-answered g c = λ tells d state holds.
    let old = c.args.connection.now in
    let mid = c.answer.new.self in
    let new = c.print_reply.new.connection in
    let has = c.in-Ok.ensures.answered tells d state holds in
    let statement = meant old.context.trx.session c.args.text.now state in
    answered_and_printed g.P.Pages d mid.context.trx.session old.context.trx.session c.args.number c.in-Ok.ensures.session old.context.pages mid.context.pages new.context.pages
    c.in-Ok.reply state statement (state_of mid) (state_of new) c.print_reply.result
    c.in-Ok.ensures.kept.silent c.in-Ok.ensures.kept.same_shape has (c.print_reply.ensures.printed tells has.comes.after (state_or_full has.full state statement) has.comes.holds)

pub returns-in-Ok-clause-part : goal.returns-in-Ok-clause-part
returns-in-Ok-clause-part g c = λ tells d state holds.
    let old = c.args.connection.now in
    let mid = c.answer.new.self in
    let has = c.in-Ok.ensures.answered tells d state holds in
    let statement = meant old.context.trx.session c.args.text.now state in
    answered_in_part g.P.Pages d mid.context.trx.session old.context.trx.session c.args.number c.in-Ok.ensures.session old.context.pages mid.context.pages c.print_reply.new.connection.context.pages
    c.in-Ok.reply state statement (state_of mid) c.print_reply.result
    c.in-Ok.ensures.kept.silent c.in-Ok.ensures.kept.same_shape has (c.print_reply.ensures.part tells)

pub returns-in-Ok-clause-sound : goal.returns-in-Ok-clause-sound
returns-in-Ok-clause-sound g c = λ tells d state holds.
    let has = c.in-Ok.ensures.answered tells d state holds in
    let statement = meant c.args.connection.now.context.trx.session c.args.text.now state in
    c.print_reply.ensures.sound tells has.comes.after (state_or_full has.full state statement) has.comes.holds
