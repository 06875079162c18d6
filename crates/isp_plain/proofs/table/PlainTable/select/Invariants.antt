use Rattle.std.proofs.Common.{◌≡◌, ◌++◌}
use Rattle.std.specs.Map.{values_of}
use Rattle.isp_plain.specs.Does.{selected}
use Rattle.isp_plain.proofs.table.PlainTable.select.Given as goal

abbrev pub invariant-loop-row : goal.invariant-loop-row
invariant-loop-row l =
    l.rows ++ selected l.row-iterator l.columns l.condition ≡ selected (values_of l.self.rows) l.columns l.condition
