use Rattle.std.proofs.Common.{◌≡◌, drop}
use Rattle.isp_plan.specs.Creating.{column_of, keyed}
use Rattle.isp_plan.specs.Refusals.{each}
use Rattle.isp_plan.proofs.EachLaws.{with_front}
use Rattle.isp_plan.proofs.creating.columns_of.Given as goal

abbrev pub invariant-loop-column : goal.invariant-loop-column
invariant-loop-column l = with_front l.found (each (column_of l.indexes) (drop l.column-index l.columns)) ≡ keyed l.key (each (column_of l.indexes) l.columns)
