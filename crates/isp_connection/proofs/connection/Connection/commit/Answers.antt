use Rattle.std.proofs.Common.{rules}
use Rattle.isp_connection.proofs.EndLaws.{comes_settled}
use Rattle.isp_connection.proofs.connection.Connection.commit.Goals as goal

pub returns-in_err-settle-clause-sound : goal.returns-in_err-settle-clause-sound
returns-in_err-settle-clause-sound g c tells d opened =
    let sound = c.in_err-settle.ensures.sound tells c.args.self.now.context.tables d opened in
    search (rules, sound, c.from_residual.ensures)

pub returns-clause-done : goal.returns-clause-done
returns-clause-done g c tells d opened =
    let defs = c.args.self.now.context.tables in
    comes_settled g.P.Pages c.settle.new.pages defs c.settle.new.trx d (c.in_ok-settle.ensures.settled tells defs d opened)
