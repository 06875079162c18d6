use Rattle.std.proofs.Common.{◌≡◌, drop}
use Rattle.isp_plan.specs.Binding.{named_from}
use Rattle.isp_plan.proofs.columns.named_within.Given as goal

abbrev pub invariant-loop-number : goal.invariant-loop-number
invariant-loop-number l = named_from l.number (drop l.number l.columns) l.name ≡ named_from 0 l.columns l.name
