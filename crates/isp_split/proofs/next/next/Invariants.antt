use Rattle.isp_split.proofs.NextLaws.{BestBelow}
use Rattle.isp_split.proofs.next.next.Given as goal

abbrev pub invariant-loop-place : goal.invariant-loop-place
invariant-loop-place l = BestBelow l.first.cover l.second.cover l.boxes l.sides l.place l.best
