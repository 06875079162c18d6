use Rattle.isp_sessions.specs.Runs.{HasSetup, SetupPart}
use Rattle.isp_sessions.proofs.ExitLaws.{on_err, on_ok, rests_behind, script_cut, script_ends}
use Rattle.isp_sessions.proofs.PlayLaws.{setup_stops_script}
use Rattle.isp_sessions.proofs.playing.answer_script.Goals as goal

pub returns-in-Ok-default-clause-played : goal.returns-in-Ok-default-clause-played
returns-in-Ok-default-clause-played g c = λ tells alone d rests.
    let old = c.args.pages in
    let behind = c.answer_setup.result in
    let end = c.answer_sessions.result in
    let shape = c.answer_setup.ensures.stays.shape in
    let has : HasSetup g.P.Pages (g.P.Pages.shape old).pages d c.args.script.now.setup old behind.1 = on_ok _ behind.0 _ c.in-Ok-default.is-0 (c.answer_setup.ensures.answered tells d rests) in
    script_ends g.P.Pages c.args.script.now d old behind.1 end.1 shape has end.0
    (c.answer_sessions.ensures.answered tells alone has.full has.rests_on.after (rests_behind g.P.Pages c.args.script.now d old behind.1 end.1 shape has))

pub returns-in-Ok-default-clause-part : goal.returns-in-Ok-default-clause-part
returns-in-Ok-default-clause-part g c = λ tells alone d rests.
    let old = c.args.pages in
    let behind = c.answer_setup.result in
    let end = c.answer_sessions.result in
    let shape = c.answer_setup.ensures.stays.shape in
    let has : HasSetup g.P.Pages (g.P.Pages.shape old).pages d c.args.script.now.setup old behind.1 = on_ok _ behind.0 _ c.in-Ok-default.is-0 (c.answer_setup.ensures.answered tells d rests) in
    script_cut g.P.Pages c.args.script.now d old behind.1 end.1 shape has end.0
    (c.answer_sessions.ensures.part tells alone has.full has.rests_on.after (rests_behind g.P.Pages c.args.script.now d old behind.1 end.1 shape has))

pub returns-in-Ok-default-clause-sound : goal.returns-in-Ok-default-clause-sound
returns-in-Ok-default-clause-sound g c = λ tells d rests.
    let old = c.args.pages in
    let behind = c.answer_setup.result in
    let end = c.answer_sessions.result in
    let has : HasSetup g.P.Pages (g.P.Pages.shape old).pages d c.args.script.now.setup old behind.1 = on_ok _ behind.0 _ c.in-Ok-default.is-0 (c.answer_setup.ensures.answered tells d rests) in
    c.answer_sessions.ensures.sound tells has.rests_on.after (rests_behind g.P.Pages c.args.script.now d old behind.1 end.1 c.answer_setup.ensures.stays.shape has)

pub returns-in-Err-default-clause-part : goal.returns-in-Err-default-clause-part
returns-in-Err-default-clause-part g c = λ tells alone d rests.
    let old = c.args.pages in
    let behind = c.answer_setup.result in
    let has : SetupPart g.P.Pages (g.P.Pages.shape old).pages d c.args.script.now.setup old behind.1 = on_err _ behind.0 _ c.in-Err-default.is-0 (c.answer_setup.ensures.part tells d rests) in
    setup_stops_script g.P.Pages (g.P.Pages.shape old).pages c.args.script.now d old behind.1 has
