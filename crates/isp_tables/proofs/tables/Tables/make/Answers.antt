use Rattle.std.proofs.Common.{rules}
use Rattle.isp_tables.proofs.tables.Tables.make.Goals as goal

pub returns-in_err-make_for_good-clause-sound : goal.returns-in_err-make_for_good-clause-sound
returns-in_err-make_for_good-clause-sound g c tells chains d can =
    let sound = c.in_err-make_for_good.ensures.sound tells chains d can in
    search (rules, sound, c.from_residual-in_err-make_for_good.ensures)
