use Rattle.isp_pool.specs.Chains.{IsPassed}
use Rattle.isp_pool.proofs.ChainLaws.{left}
use Rattle.isp_pool.proofs.by_page.find_from.Given as goal

abbrev pub invariant-loop-at : goal.invariant-loop-at
invariant-loop-at l = IsPassed l.pages l.p l.at

abbrev pub decreases-loop-at : goal.decreases-loop-at
decreases-loop-at l = left l.at
