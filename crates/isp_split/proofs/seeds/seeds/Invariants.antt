use Rattle.isp_split.proofs.SeedLaws.{IsBest}
use Rattle.isp_split.proofs.seeds.seeds.Given as goal

abbrev pub invariant-loop-i : goal.invariant-loop-i
invariant-loop-i l = IsBest l.boxes l.i 0 l.best
