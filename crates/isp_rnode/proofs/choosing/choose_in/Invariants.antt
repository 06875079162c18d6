use Rattle.isp_rnode.specs.Nodes.{node_of}
use Rattle.isp_rnode.proofs.ChoiceLaws.{IsBestOf}
use Rattle.isp_rnode.proofs.choosing.choose_in.Given as goal

abbrev pub invariant-loop-i : goal.invariant-loop-i
invariant-loop-i l = IsBestOf (node_of l.p.bytes).entries l.b l.i l.best
