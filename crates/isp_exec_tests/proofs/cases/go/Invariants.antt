use Rattle.isp_tables.specs.Calls.{Serves}
use Rattle.isp_exec_tests.proofs.cases.go.Given as goal

abbrev pub invariant-loop-act : goal.invariant-loop-act
invariant-loop-act g l = Serves g.P.Pages l.context.pages l.context.tables
