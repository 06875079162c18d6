use Rattle.std.proofs.Common.{rules}
use Rattle.isp_rtree.proofs.growing.growths.Goals as goal

pub returns-in_err-grow-clause-sound : goal.returns-in_err-grow-clause-sound
returns-in_err-grow-clause-sound g c tells owner root tree at stands =
    let sound = c.in_err-grow.ensures.sound tells owner root tree at stands in
    search (rules, sound, c.from_residual-in_err-grow.ensures)
