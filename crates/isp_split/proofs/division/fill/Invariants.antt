use Rattle.std.proofs.Common.{◌≡◌, ◌++◌, map, take, drop}
use Rattle.isp_split.specs.Division.{with_rest}
use Rattle.isp_split.proofs.division.fill.Given as goal

abbrev pub invariant-loop-entry : goal.invariant-loop-entry
invariant-loop-entry l = l.entry-items ≡ map (with_rest l.side) (take l.entry-index l.initial.entry-items) ++ drop l.entry-index l.initial.entry-items
