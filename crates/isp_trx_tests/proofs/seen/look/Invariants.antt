use Rattle.isp_trx_tests.specs.Ready.{IsReady}
use Rattle.isp_trx_tests.proofs.seen.look.Given as goal

abbrev pub invariant-loop-key : goal.invariant-loop-key
invariant-loop-key g l = IsReady g.P.Pages l.pages
