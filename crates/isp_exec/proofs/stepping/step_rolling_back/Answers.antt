use Rattle.std.proofs.Common.{rules, Bool, ◌∙◌, subst}
use Rattle.isp_writes.specs.Writing.{UndidOrNot}
use Rattle.isp_exec.proofs.RollLaws.{some_noted_at}
use Rattle.isp_exec.proofs.stepping.step_rolling_back.Goals as goal

pub returns-in_err-undo_newest-clause-back : goal.returns-in_err-undo_newest-clause-back
returns-in_err-undo_newest-clause-back g c tells d opened =
    let sound = c.in_err-undo_newest.ensures.sound tells d opened in
    search (rules, sound, c.from_residual.ensures)

pub returns-clause-rolls : goal.returns-clause-rolls
returns-clause-rolls g c tells d opened =
    let some = some_noted_at c.args.trx.now.count (λ is. c.if-undo_count-eq0.false (c.undo_count.ensures ∙ is)) in
    subst (λ (b : Bool). UndidOrNot g.P.Pages c.undo_newest.new.pages c.args.tables.now c.undo_newest.new.trx b d) some (c.in_ok-undo_newest.ensures.undone tells d opened)
