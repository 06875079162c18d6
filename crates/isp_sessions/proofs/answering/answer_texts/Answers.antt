use Rattle.std.proofs.Common.{rules, ◌≡◌, arith, subst, take}
use Rattle.std.proofs.lemmas.List.{take_all}
use Rattle.isp_connection.specs.Connections.{state_of}
use Rattle.isp_serial.specs.Alone.{after_texts, none_full}
use Rattle.isp_sessions.specs.Runs.{HasTexts}
use Rattle.isp_sessions.specs.Sql.{sql}
use Rattle.isp_sessions.proofs.ExitLaws.{texts_cut, texts_next}
use Rattle.isp_sessions.proofs.RunLaws.{no_texts}
use Rattle.isp_sessions.proofs.answering.answer_texts.Goals as goal

pub loop-i-init : goal.loop-i-init
loop-i-init g c = (
  search rules,
  c.requires.serves,
  search rules,
  λ tells base d state runs.
      let old = c.args.connection.now in
      no_texts g.P.Pages (g.P.Pages.shape old.context.pages).pages base d old.context.trx.session state old.context.pages (state_of old) runs,
)

pub loop-i-preserved : goal.loop-i-preserved
loop-i-preserved g c = (
  search rules,
  search rules,
  search rules,
  λ tells base d state runs.
      let old = c.args.connection.now in
      let mid = c.loop-i.connection in
      let new = c.answer_text.new.connection in
      let session = old.context.trx.session in
      let texts = c.args.texts.now in
      let i = c.loop-i.i in
      let before = c.loop-i.invariant.3 tells base d state runs in
      texts_next g.P.Pages base d session texts state old.context.pages mid.context.pages (state_of mid) i c.index-texts-i.result c.loop-i-test.true c.index-texts-i.is
      mid.context.trx.session c.loop-i.invariant.2 c.loop-i.invariant.0.shape before new.context.pages (state_of new)
      (c.in-Ok.ensures.answered tells before.runs_on.after (after_texts sql before.full session 1 (take i texts) state) before.runs_on.runs.holds),
)

pub returns-in-Err-clause-part : goal.returns-in-Err-clause-part
returns-in-Err-clause-part g c = λ tells base d state runs.
    let old = c.args.connection.now in
    let mid = c.loop-i.connection in
    let session = old.context.trx.session in
    let texts = c.args.texts.now in
    let i = c.loop-i.i in
    let before = c.loop-i.invariant.3 tells base d state runs in
    texts_cut g.P.Pages base d session texts state old.context.pages mid.context.pages (state_of mid) i c.index-texts-i.result c.loop-i-test.true c.index-texts-i.is
    mid.context.trx.session c.loop-i.invariant.2 c.loop-i.invariant.0.shape before c.answer_text.new.connection.context.pages
    (c.in-Err.ensures.part tells before.runs_on.after (after_texts sql before.full session 1 (take i texts) state) before.runs_on.runs.holds)

pub returns-in-Err-clause-sound : goal.returns-in-Err-clause-sound
returns-in-Err-clause-sound g c = λ tells d state runs.
    let before = c.loop-i.invariant.3 tells none_full d state runs in
    c.in-Err.ensures.sound tells before.runs_on.after (after_texts sql before.full c.args.connection.now.context.trx.session 1 (take c.loop-i.i c.args.texts.now) state) before.runs_on.runs.holds

pub returns-clause-answered : goal.returns-clause-answered
returns-clause-answered g c = λ tells base d state runs.
    let old = c.args.connection.now in
    let mid = c.loop-i.connection in
    let texts = c.args.texts.now in
    let all : take c.loop-i.i texts ≡ texts = take_all c.loop-i.i texts (omega (arith, c.loop-i-test.false)) in
    subst (λ ts. HasTexts g.P.Pages (g.P.Pages.shape old.context.pages).pages base d old.context.trx.session ts state old.context.pages mid.context.pages (state_of mid)) all
    (c.loop-i.invariant.3 tells base d state runs)
