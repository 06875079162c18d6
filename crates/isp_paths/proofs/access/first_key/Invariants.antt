use Rattle.std.proofs.Common.{◌≡◌, drop}
use Rattle.isp_paths.specs.Paths.{first_key}
use Rattle.isp_paths.proofs.access.first_key.Given as goal

abbrev pub invariant-loop-a : goal.invariant-loop-a
invariant-loop-a l = first_key (drop l.a-index l.atoms) ≡ first_key l.atoms
