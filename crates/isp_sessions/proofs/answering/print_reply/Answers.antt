use Rattle.std.proofs.Common.{◌∙◌}
use Rattle.isp_image.proofs.FaultLaws.{later_none_or}
use Rattle.isp_connection.specs.Connections.{state_of}
use Rattle.isp_sessions.proofs.ReplyLaws.{printed_and_swept, printed_unswept, session_stays, still_holds, still_serves}
use Rattle.isp_sessions.proofs.answering.print_reply.Goals as goal

pub sweep-requires : goal.sweep-requires
sweep-requires g c =
    let old = c.args.connection.now in
    let mid = c.print_answer.new.connection in
    let e = c.in-Ok.ensures in
    record { serves = still_serves g.P.Pages old.context.pages mid.context.pages (state_of old) (state_of mid) e.same e.stays.shape e.stays.usable e.stays.none c.requires.serves }

pub returns-in-Ok-clause-session : goal.returns-in-Ok-clause-session
returns-in-Ok-clause-session g c =
    session_stays g.P.Pages (state_of c.args.connection.now) (state_of c.print_answer.new.connection) c.sweep.new.self.context.trx.session c.sweep.result c.in-Ok.ensures.same c.sweep.ensures.session

pub returns-in-Ok-clause-printed : goal.returns-in-Ok-clause-printed
returns-in-Ok-clause-printed g c = λ tells d state holds.
    let old = c.args.connection.now in
    let mid = c.print_answer.new.connection in
    let new = c.sweep.new.self in
    let e = c.in-Ok.ensures in
    let still = still_holds g.P.Pages old.context.pages mid.context.pages (state_of old) (state_of mid) e.same e.stays.shape state d (e.kept.contents tells) holds in
    printed_and_swept g.P.Pages d old.context.trx.session c.args.number old.context.pages mid.context.pages new.context.pages c.args.reply.now state (state_of new) c.sweep.result
    (e.prints tells).whole c.sweep.ensures.kept.silent (c.sweep.ensures.kept.same_shape ∙ e.stays.shape) (c.sweep.ensures.swept tells d state still)

pub returns-in-Ok-clause-part : goal.returns-in-Ok-clause-part
returns-in-Ok-clause-part g c = λ tells.
    let old = c.args.connection.now in
    printed_unswept g.P.Pages old.context.trx.session c.args.number old.context.pages c.print_answer.new.connection.context.pages c.sweep.new.self.context.pages c.args.reply.now c.sweep.result
    (c.in-Ok.ensures.prints tells).whole c.sweep.ensures.kept.silent

pub returns-in-Ok-clause-sound : goal.returns-in-Ok-clause-sound
returns-in-Ok-clause-sound g c = λ tells d state holds.
    let old = c.args.connection.now in
    let mid = c.print_answer.new.connection in
    let e = c.in-Ok.ensures in
    c.sweep.ensures.sound tells d state (still_holds g.P.Pages old.context.pages mid.context.pages (state_of old) (state_of mid) e.same e.stays.shape state d (e.kept.contents tells) holds)

pub returns-in-Err-clause-later : goal.returns-in-Err-clause-later
returns-in-Err-clause-later g c = later_none_or c.in-Err.fault c.in-Err.ensures.sound
