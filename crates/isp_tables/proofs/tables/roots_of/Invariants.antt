use Rattle.std.proofs.Common.{◌≡◌, ◌++◌, drop}
use Rattle.isp_tables.specs.TableLists.{roots_of}
use Rattle.isp_trx.specs.Roots.{numbers_of}
use Rattle.isp_tables.proofs.tables.roots_of.Given as goal

abbrev pub invariant-loop-def : goal.invariant-loop-def
invariant-loop-def l = numbers_of l.roots.items ++ roots_of (drop l.def-index l.defs) ≡ roots_of l.defs
