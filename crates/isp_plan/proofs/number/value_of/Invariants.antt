use Rattle.std.proofs.Common.{◌≡◌, ◌-◌, ◌^◌, ◌≤◌, drop, min}
use Rattle.isp_plan.specs.Numbers.{value_from}
use Rattle.isp_plan.proofs.number.value_of.Given as goal

abbrev pub invariant-loop-digit : goal.invariant-loop-digit
invariant-loop-digit l = (l.value ≤ 2 ^ 64 - 1) × (min (value_from l.value (drop l.digit-index l.digits)) (2 ^ 64 - 1) ≡ min (value_from 0 l.digits) (2 ^ 64 - 1))
