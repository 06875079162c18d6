use Rattle.std.proofs.Common.{rules}
use Rattle.isp_clustered.proofs.leaves.right_of.Goals as goal

pub returns-in_err-_used-clause-sound : goal.returns-in_err-_used-clause-sound
returns-in_err-_used-clause-sound g c tells table next rows leaf some inside =
    let sound = c.in_err-_used.ensures.sound tells table next rows leaf in
    search (rules, sound, c.from_residual.ensures)
