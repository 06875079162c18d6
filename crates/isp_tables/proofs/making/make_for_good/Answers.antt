use Rattle.std.proofs.Common.{rules}
use Rattle.isp_tables.proofs.making.make_for_good.Goals as goal

pub returns-in_err-create_table-clause-sound : goal.returns-in_err-create_table-clause-sound
returns-in_err-create_table-clause-sound g c tells chains d can =
    let sound = c.in_err-create_table.ensures.sound tells chains d can in
    search (rules, sound, c.from_residual.ensures)
