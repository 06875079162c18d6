use Rattle.std.proofs.Common.{◌≡◌, length}
use Rattle.isp_doublewrite.specs.Lists.{are_good}
use Rattle.isp_doublewrite.proofs.list.are_good.Given as goal

abbrev pub invariant-loop-rest : goal.invariant-loop-rest
invariant-loop-rest l = are_good l.pages l.rest ≡ are_good l.pages l.numbers

abbrev pub decreases-loop-rest : goal.decreases-loop-rest
decreases-loop-rest l = length l.rest
