use Rattle.isp_split.proofs.SeedLaws.{IsBest}
use Rattle.isp_split.proofs.seeds.best_of_row.Given as goal

abbrev pub invariant-loop-j : goal.invariant-loop-j
invariant-loop-j l = IsBest l.boxes l.i l.j l.best
