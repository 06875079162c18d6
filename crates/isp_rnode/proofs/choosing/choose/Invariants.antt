use Rattle.isp_rnode.proofs.ChoiceLaws.{IsBestOf}
use Rattle.isp_rnode.proofs.choosing.choose.Given as goal

abbrev pub invariant-loop-e : goal.invariant-loop-e
invariant-loop-e l = IsBestOf l.entries l.b l.e-index l.best
