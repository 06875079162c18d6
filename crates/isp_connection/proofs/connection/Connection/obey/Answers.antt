use Rattle.std.proofs.Common.{rules, refl, sym, ap, subst}
use Rattle.isp_plain.specs.declared.statement.Reply.TheVariants as reply
use Rattle.isp_plain.specs.declared.statement.Statement.{Statement}
use Rattle.isp_plain.specs.declared.statement.Statement.TheVariants.{Rollback}
use Rattle.isp_serial.specs.Alone.{effect_by}
use Rattle.isp_connection.specs.Answering.{Answered}
use Rattle.isp_connection.specs.Connections.{state_of}
use Rattle.isp_connection.proofs.EndLaws.{answered_ok}
use Rattle.isp_connection.proofs.connection.Connection.obey.Goals as goal

pub returns-in_err-commit-in-Commit-clause-sound : goal.returns-in_err-commit-in-Commit-clause-sound
returns-in_err-commit-in-Commit-clause-sound g c tells d state h may =
    let sound = c.in_err-commit-in-Commit.ensures.sound tells d h.opened in
    search (rules, sound, c.from_residual.ensures)

pub returns-in_err-roll_back-in-Rollback-clause-sound : goal.returns-in_err-roll_back-in-Rollback-clause-sound
returns-in_err-roll_back-in-Rollback-clause-sound g c tells d state h may =
    let sound = c.in_err-roll_back-in-Rollback.ensures.sound tells d state h in
    search (rules, sound, c.from_residual-in_err-roll_back-in-Rollback.ensures)

pub returns-in_ok-roll_back-in-Rollback-clause-answered : goal.returns-in_ok-roll_back-in-Rollback-clause-answered
returns-in_ok-roll_back-in-Rollback-clause-answered g c tells d state h may =
    let new = c.roll_back.new.self in
    let back = c.in_ok-roll_back-in-Rollback.ensures.back tells d state h in
    subst (λ (s : Statement). Answered g.P.Pages new.context.pages (state_of new) state s d reply.Ok) (sym c.in-Rollback.is) (answered_ok g.P.Pages new.context.pages (state_of new) state d reply.Ok Rollback refl back)

pub execute-requires-clause-stays : goal.execute-requires-clause-stays
execute-requires-clause-stays g c = ap effect_by c.in-Create.is

pub execute-requires-in-Insert-clause-stays : goal.execute-requires-in-Insert-clause-stays
execute-requires-in-Insert-clause-stays g c = ap effect_by c.in-Insert.is

pub execute-requires-in-Select-clause-stays : goal.execute-requires-in-Select-clause-stays
execute-requires-in-Select-clause-stays g c = ap effect_by c.in-Select.is

pub execute-requires-in-Update-clause-stays : goal.execute-requires-in-Update-clause-stays
execute-requires-in-Update-clause-stays g c = ap effect_by c.in-Update.is

pub execute-requires-in-Delete-clause-stays : goal.execute-requires-in-Delete-clause-stays
execute-requires-in-Delete-clause-stays g c = ap effect_by c.in-Delete.is

pub execute-requires-in-Refused-clause-stays : goal.execute-requires-in-Refused-clause-stays
execute-requires-in-Refused-clause-stays g c = ap effect_by c.in-Refused.is
