use Rattle.isp_trx_tests.specs.Ready.{IsReady}
use Rattle.isp_trx_tests.proofs.noted.read_file.Given as goal

abbrev pub invariant-loop-number : goal.invariant-loop-number
invariant-loop-number g l = IsReady g.P.Pages l.pages
