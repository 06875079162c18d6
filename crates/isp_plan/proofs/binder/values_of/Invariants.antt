use Rattle.std.proofs.Common.{◌≡◌, drop}
use Rattle.isp_plan.specs.Binding.{values_of}
use Rattle.isp_plan.proofs.EachLaws.{with_front}
use Rattle.isp_plan.proofs.binder.values_of.Given as goal

abbrev pub invariant-loop-column : goal.invariant-loop-column
invariant-loop-column l = with_front l.found (values_of (drop l.column-index l.columns) l.rest) ≡ values_of l.columns l.literals
