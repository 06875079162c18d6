use Rattle.std.proofs.Common.{◌≡◌, ◌<◌, ◌+◌, ℕ, suc, false, length}
use Rattle.isp_waits.specs.Levels.{reaches, AreLevels}
use Rattle.isp_waits.proofs.graph.Waits.cycle_from.Given as goal

abbrev pub invariant-loop-steps : goal.invariant-loop-steps
invariant-loop-steps l =
    AreLevels l.self l.s (l.steps + 1) l.levels × ((k : ℕ) → k < l.steps → reaches l.self l.s (suc k) l.s ≡ false) × (0 < l.steps → length l.self ≡ 17)
    × (length l.levels ≡ 18)
