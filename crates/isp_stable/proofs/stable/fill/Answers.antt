use Rattle.std.proofs.Common.{ℕ, ◌∙◌, ap}
use Rattle.isp_disk.specs.Moments.{slice}
use Rattle.isp_stable.proofs.stable.fill.Goals as goal

pub returns-clause-bytes : goal.returns-clause-bytes
returns-clause-bytes g c = λ tells. c.in_ok-read.ensures.bytes tells ∙ ap (λ (n : ℕ). slice (g.W.World.image c.args.world.now) c.args.at n) c.told-into
