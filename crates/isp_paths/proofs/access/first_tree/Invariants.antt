use Rattle.std.proofs.Common.{◌≡◌, drop}
use Rattle.isp_paths.specs.Paths.{first_tree}
use Rattle.isp_paths.proofs.access.first_tree.Given as goal

abbrev pub invariant-loop-a : goal.invariant-loop-a
invariant-loop-a l = first_tree l.columns (drop l.a-index l.atoms) ≡ first_tree l.columns l.atoms
