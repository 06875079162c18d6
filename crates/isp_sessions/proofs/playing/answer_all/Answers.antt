use Rattle.isp_connection.specs.Connections.{state_of}
use Rattle.isp_serial.specs.Alone.{after_texts, none_full}
use Rattle.isp_sessions.specs.Sql.{sql}
use Rattle.isp_sessions.proofs.ExitLaws.{session_cut, session_ends}
use Rattle.isp_sessions.proofs.PlayLaws.{session_stops}
use Rattle.isp_sessions.proofs.playing.answer_all.Goals as goal

pub returns-in-Ok-clause-answered : goal.returns-in-Ok-clause-answered
returns-in-Ok-clause-answered g c = λ tells base d state runs.
    let old = c.args.connection.now.context in
    let mid = c.answer_texts.new.connection in
    let new = c.end_session.new.connection in
    let session = old.trx.session in
    let texts = c.args.texts.now in
    let has = c.in-Ok.ensures.answered tells base d state runs in
    session_ends g.P.Pages base d session texts state old.pages mid.context.pages new.context.pages (state_of mid)
    mid.context.trx.session c.end_number.result c.in-Ok.ensures.session c.end_number.ensures.value has (state_of new)
    c.in-Ok.ensures.stays.shape c.end_session.ensures.stays.shape c.end_session.result
    (c.end_session.ensures.ended tells has.runs_on.after (after_texts sql has.full session 1 texts state) has.runs_on.runs.holds)

pub returns-in-Ok-clause-part : goal.returns-in-Ok-clause-part
returns-in-Ok-clause-part g c = λ tells base d state runs.
    let old = c.args.connection.now.context in
    let mid = c.answer_texts.new.connection in
    let has = c.in-Ok.ensures.answered tells base d state runs in
    session_cut g.P.Pages base d old.trx.session c.args.texts.now state old.pages mid.context.pages c.end_session.new.connection.context.pages (state_of mid)
    mid.context.trx.session c.end_number.result c.in-Ok.ensures.session c.end_number.ensures.value has c.end_session.result (c.end_session.ensures.part tells)

pub returns-in-Ok-clause-sound : goal.returns-in-Ok-clause-sound
returns-in-Ok-clause-sound g c = λ tells d state runs.
    let has = c.in-Ok.ensures.answered tells none_full d state runs in
    c.end_session.ensures.sound tells has.runs_on.after (after_texts sql has.full c.args.connection.now.context.trx.session 1 c.args.texts.now state) has.runs_on.runs.holds

pub returns-in-Err-clause-part : goal.returns-in-Err-clause-part
returns-in-Err-clause-part g c = λ tells base d state runs.
    let old = c.args.connection.now.context in
    session_stops g.P.Pages (g.P.Pages.shape old.pages).pages base d old.trx.session c.args.texts.now state old.pages c.answer_texts.new.connection.context.pages
    (c.in-Err.ensures.part tells base d state runs)
