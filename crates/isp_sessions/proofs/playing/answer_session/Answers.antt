use Rattle.std.proofs.Common.{subst, sym}
use Rattle.std.specs.Prelude.{OnErr, OnOk}
use Rattle.isp_connection.specs.Connections.{state_of}
use Rattle.isp_image.specs.Databases.{tables_of}
use Rattle.isp_serial.specs.Alone.{settled}
use Rattle.isp_sessions.specs.Runs.{HasSession, SessionPart}
use Rattle.isp_sessions.proofs.ExitLaws.{opened_cut, opened_ends}
use Rattle.isp_sessions.proofs.PlayLaws.{opened, session_unopened}
use Rattle.isp_sessions.proofs.playing.answer_session.Goals as goal

pub returns-in-Ok-clause-answered : goal.returns-in-Ok-clause-answered
returns-in-Ok-clause-answered g c = λ tells base d rests.
    let old = c.args.pages in
    let begun = c.in-Ok.connection in
    let kept = c.in-Ok.ensures.kept.keeps in
    let runs = opened g.P.Pages begun.context.pages (state_of begun) d (g.P.Pages.shape old).pages old rests (c.in-Ok.ensures.opened tells d rests.kept rests.tidy) in
    subst (λ now. OnOk c.answer_all-end.result (HasSession g.P.Pages (g.P.Pages.shape old).pages base d c.args.session.now.number c.args.session.now.texts (settled (tables_of d)) old now)) (sym c.into_pages.ensures)
    (opened_ends g.P.Pages d c.as_slice.result.now c.args.session.now.texts c.as_slice.ensures old begun.context.pages c.answer_all-end.new.connection.context.pages begun.context.trx.session kept.same_shape kept.silent
    c.args.session.now.number c.in-Ok.ensures.session base c.answer_all-end.result (c.answer_all-end.ensures.answered tells base d (settled (tables_of d)) runs))

pub returns-in-Ok-clause-part : goal.returns-in-Ok-clause-part
returns-in-Ok-clause-part g c = λ tells base d rests.
    let old = c.args.pages in
    let begun = c.in-Ok.connection in
    let kept = c.in-Ok.ensures.kept.keeps in
    let runs = opened g.P.Pages begun.context.pages (state_of begun) d (g.P.Pages.shape old).pages old rests (c.in-Ok.ensures.opened tells d rests.kept rests.tidy) in
    subst (λ now. OnErr c.answer_all-end.result (SessionPart g.P.Pages (g.P.Pages.shape old).pages base d c.args.session.now.number c.args.session.now.texts (settled (tables_of d)) old now)) (sym c.into_pages.ensures)
    (opened_cut g.P.Pages d c.as_slice.result.now c.args.session.now.texts c.as_slice.ensures old begun.context.pages c.answer_all-end.new.connection.context.pages begun.context.trx.session kept.same_shape kept.silent
    c.args.session.now.number c.in-Ok.ensures.session base c.answer_all-end.result (c.answer_all-end.ensures.part tells base d (settled (tables_of d)) runs))

pub returns-in-Ok-clause-sound : goal.returns-in-Ok-clause-sound
returns-in-Ok-clause-sound g c = λ tells d rests.
    let old = c.args.pages in
    let begun = c.in-Ok.connection in
    c.answer_all-end.ensures.sound tells d (settled (tables_of d))
    (opened g.P.Pages begun.context.pages (state_of begun) d (g.P.Pages.shape old).pages old rests (c.in-Ok.ensures.opened tells d rests.kept rests.tidy))

pub returns-in-Err-clause-part : goal.returns-in-Err-clause-part
returns-in-Err-clause-part g c = λ tells base d rests.
    session_unopened g.P.Pages (g.P.Pages.shape c.args.pages).pages base d c.args.session.now.number c.args.session.now.texts (settled (tables_of d)) c.args.pages c.in-Err.pages c.in-Err.ensures.kept.keeps.silent

pub returns-in-Err-clause-sound : goal.returns-in-Err-clause-sound
returns-in-Err-clause-sound g c = λ tells d rests. c.in-Err.ensures.sound tells d rests.kept
