use Rattle.isp_trx_tests.specs.Ready.{IsReady}
use Rattle.isp_trx_tests.proofs.acts.undo_all.Given as goal

abbrev pub invariant-loop : goal.invariant-loop
invariant-loop g l = IsReady g.P.Pages l.pages
