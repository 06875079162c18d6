use Rattle.isp_trx_tests.specs.Ready.{IsReady}
use Rattle.isp_trx_tests.proofs.acts.run.Given as goal

abbrev pub invariant-loop-act : goal.invariant-loop-act
invariant-loop-act g l = IsReady g.P.Pages l.pages
