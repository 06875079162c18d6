use Rattle.std.proofs.Common.{◌≡◌, drop}
use Rattle.isp_predlock.specs.Testing.{first_of}
use Rattle.isp_predlock.proofs.testing.first_of.Given as goal

abbrev pub invariant-loop-on : goal.invariant-loop-on
invariant-loop-on l = first_of (drop l.on-index l.list) l.session ≡ first_of l.list l.session
