use Rattle.std.proofs.Common.{◌≡◌, ◌++◌, drop}
use Rattle.isp_plan.specs.Binding.{numbers_from}
use Rattle.isp_plan.proofs.columns.numbers_within.Given as goal

abbrev pub invariant-loop-number : goal.invariant-loop-number
invariant-loop-number l = l.numbers ++ numbers_from l.number (drop l.number l.columns) ≡ numbers_from 0 l.columns
