use Rattle.std.proofs.Common.{◌≡◌, ℕ, List, length, OnOk, sym, subst}
use Rattle.isp_redo.proofs.Steps.{log_slice}
use Rattle.isp_redo.proofs.fields.read_at.Goals as goal

pub returns-clause-bytes : goal.returns-clause-bytes
returns-clause-bytes g c tells =
    subst (λ (bytes : List ℕ). OnOk c.read.result (c.read.new.into ≡ bytes)) (sym (log_slice (g.W.World.image c.args.world.now) c.args.at (length c.args.into.now))) (c.read.ensures.bytes tells)
