use Rattle.isp_exec.specs.Standing.{IsFit}
use Rattle.isp_tables.specs.Calls.{Serves}
use Rattle.isp_exec_tests.proofs.steps.goes_by.Given as goal

abbrev pub invariant-loop-kind : goal.invariant-loop-kind
invariant-loop-kind g l = Serves g.P.Pages l.context.pages l.context.tables × IsFit (g.P.Pages.shape l.context.pages).pages l.context.tables l.work.progress
