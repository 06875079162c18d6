-- The worked statements, by computation.
use Rattle.std.proofs.Common.{refl}
use Rattle.isp_changes.specs.Worked.{WorkedSteps}

pub worked_steps : WorkedSteps
worked_steps = record { put = refl; put_back = refl; read = refl; written = refl; full = refl; deleted = refl }
