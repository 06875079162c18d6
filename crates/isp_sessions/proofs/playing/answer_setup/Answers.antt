use Rattle.std.proofs.Common.{subst, sym}
use Rattle.std.specs.Prelude.{OnErr, OnOk}
use Rattle.isp_connection.specs.Connections.{state_of}
use Rattle.isp_image.specs.Databases.{tables_of}
use Rattle.isp_serial.specs.Alone.{none_full, settled}
use Rattle.isp_sessions.specs.Runs.{HasSetup, SetupPart}
use Rattle.isp_sessions.proofs.ExitLaws.{setup_cut, setup_ends}
use Rattle.isp_sessions.proofs.PlayLaws.{opened, setup_unopened}
use Rattle.isp_sessions.proofs.playing.answer_setup.Goals as goal

pub returns-in-Ok-clause-answered : goal.returns-in-Ok-clause-answered
returns-in-Ok-clause-answered g c = λ tells d rests.
    let old = c.args.pages in
    let begun = c.in-Ok.connection in
    let new = c.answer_texts-end.new.connection in
    let kept = c.in-Ok.ensures.kept.keeps in
    let runs = opened g.P.Pages begun.context.pages (state_of begun) d (g.P.Pages.shape old).pages old rests (c.in-Ok.ensures.opened tells d rests.kept rests.tidy) in
    subst (λ now. OnOk c.answer_texts-end.result (HasSetup g.P.Pages (g.P.Pages.shape old).pages d c.args.script.now.setup old now)) (sym c.into_pages.ensures)
    (setup_ends g.P.Pages d c.as_slice.result.now c.args.script.now.setup c.as_slice.ensures old begun.context.pages new.context.pages begun.context.trx.session kept.same_shape kept.silent c.in-Ok.ensures.session
    (state_of new) c.answer_texts-end.ensures.stays.shape c.answer_texts-end.result (c.answer_texts-end.ensures.answered tells none_full d (settled (tables_of d)) runs))

pub returns-in-Ok-clause-part : goal.returns-in-Ok-clause-part
returns-in-Ok-clause-part g c = λ tells d rests.
    let old = c.args.pages in
    let begun = c.in-Ok.connection in
    let kept = c.in-Ok.ensures.kept.keeps in
    let runs = opened g.P.Pages begun.context.pages (state_of begun) d (g.P.Pages.shape old).pages old rests (c.in-Ok.ensures.opened tells d rests.kept rests.tidy) in
    subst (λ now. OnErr c.answer_texts-end.result (SetupPart g.P.Pages (g.P.Pages.shape old).pages d c.args.script.now.setup old now)) (sym c.into_pages.ensures)
    (setup_cut g.P.Pages d c.as_slice.result.now c.args.script.now.setup c.as_slice.ensures old begun.context.pages c.answer_texts-end.new.connection.context.pages begun.context.trx.session kept.same_shape kept.silent c.in-Ok.ensures.session
    c.answer_texts-end.result (c.answer_texts-end.ensures.part tells none_full d (settled (tables_of d)) runs))

pub returns-in-Ok-clause-sound : goal.returns-in-Ok-clause-sound
returns-in-Ok-clause-sound g c = λ tells d rests.
    let old = c.args.pages in
    let begun = c.in-Ok.connection in
    c.answer_texts-end.ensures.sound tells d (settled (tables_of d))
    (opened g.P.Pages begun.context.pages (state_of begun) d (g.P.Pages.shape old).pages old rests (c.in-Ok.ensures.opened tells d rests.kept rests.tidy))

pub returns-in-Err-clause-part : goal.returns-in-Err-clause-part
returns-in-Err-clause-part g c = λ tells d rests.
    setup_unopened g.P.Pages (g.P.Pages.shape c.args.pages).pages d c.args.script.now.setup c.args.pages c.in-Err.pages c.in-Err.ensures.kept.keeps.silent

pub returns-in-Err-clause-sound : goal.returns-in-Err-clause-sound
returns-in-Err-clause-sound g c = λ tells d rests. c.in-Err.ensures.sound tells d rests.kept
