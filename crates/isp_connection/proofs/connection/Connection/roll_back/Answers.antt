use Rattle.std.proofs.Common.{rules, refl, ap}
use Rattle.isp_page.specs.State.{FileShape}
use Rattle.isp_connection.specs.Connections.{state_of}
use Rattle.isp_connection.proofs.EndLaws.{comes_back}
use Rattle.isp_connection.proofs.connection.Connection.roll_back.Goals as goal

pub returns-in_err-_reply-clause-sound : goal.returns-in_err-_reply-clause-sound
returns-in_err-_reply-clause-sound g c tells d state h =
    let sound = c.in_err-_reply.ensures.sound_back tells d h.opened (c.start-work.ensures.rolls refl) in
    search (rules, sound, c.from_residual.ensures)

pub returns-in_err-commit-clause-sound : goal.returns-in_err-commit-clause-sound
returns-in_err-commit-clause-sound g c tells d state h =
    let b = c.in_ok-_reply.ensures.back tells d h.opened (c.start-work.ensures.rolls refl) in
    let sound = c.in_err-commit.ensures.sound tells b.after b.opened in
    search (rules, sound, c.from_residual-in_err-commit.ensures)

pub returns-clause-back : goal.returns-clause-back
returns-clause-back g c tells d state h =
    let mid = c.run.new.context in
    let new = c.commit.new.self in
    let k = c.in_ok-commit.ensures in
    let b = c.in_ok-_reply.ensures.back tells d h.opened (c.start-work.ensures.rolls refl) in
    comes_back g.P.Pages mid.pages new.context.pages mid.tables mid.trx (state_of new) state d h.committed_are b (ap (λ (s : FileShape). s.pages) k.kept.same_shape) (k.done tells b.after b.opened)
