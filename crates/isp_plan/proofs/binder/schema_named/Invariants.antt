use Rattle.std.proofs.Common.{◌≡◌, drop, map}
use Rattle.isp_plan.specs.Binding.{schema_named}
use Rattle.isp_plan.proofs.binder.schema_named.Given as goal

abbrev pub invariant-loop-table : goal.invariant-loop-table
invariant-loop-table g l = schema_named (map g.T.Defined.definition (drop l.table-index l.tables)) l.name ≡ schema_named (map g.T.Defined.definition l.tables) l.name
