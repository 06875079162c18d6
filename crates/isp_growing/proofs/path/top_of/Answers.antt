use Rattle.std.proofs.Common.{rules}
use Rattle.isp_growing.proofs.path.top_of.Goals as goal

pub returns-in_err-height-clause-sound : goal.returns-in_err-height-clause-sound
returns-in_err-height-clause-sound g c tells height says =
    let sound = c.in_err-height.ensures.sound tells height says in
    search (rules, sound, c.from_residual.ensures)
