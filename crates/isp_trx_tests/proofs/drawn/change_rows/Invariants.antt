use Rattle.isp_trx_tests.specs.Ready.{IsReady}
use Rattle.isp_trx_tests.proofs.drawn.change_rows.Given as goal

abbrev pub invariant-loop-turn : goal.invariant-loop-turn
invariant-loop-turn g l = IsReady g.P.Pages l.pages
