use Rattle.isp_sessions.proofs.ExitLaws.{none_ends, sessions_cut, sessions_end}
use Rattle.isp_sessions.proofs.playing.answer_sessions.Goals as goal

pub returns-in-empty-clause-answered : goal.returns-in-empty-clause-answered
returns-in-empty-clause-answered g c = λ tells alone base d rests.
    let now = c.args.pages in
    none_ends g.P.Pages (g.P.Pages.shape now).pages base d now now c.as_slice.result.now c.args.script.now.sessions c.as_slice.ensures c.in-empty.len_below rests

pub returns-in-len1-up-clause-answered : goal.returns-in-len1-up-clause-answered
returns-in-len1-up-clause-answered g c = λ tells alone base d rests.
    let old = c.args.pages in
    let end = c.answer_session.result in
    sessions_end g.P.Pages (g.P.Pages.shape old).pages base d old end.1 c.as_slice.result.now c.args.script.now.sessions c.as_slice.ensures alone
    c.session-item.result c.in-len1-up.len_at_least c.session-item.is end.0 (c.answer_session.ensures.answered tells base d rests)

pub returns-in-len1-up-clause-part : goal.returns-in-len1-up-clause-part
returns-in-len1-up-clause-part g c = λ tells alone base d rests.
    let old = c.args.pages in
    let end = c.answer_session.result in
    sessions_cut g.P.Pages (g.P.Pages.shape old).pages base d old end.1 c.as_slice.result.now c.args.script.now.sessions c.as_slice.ensures alone
    c.session-item.result c.in-len1-up.len_at_least c.session-item.is end.0 (c.answer_session.ensures.part tells base d rests)
