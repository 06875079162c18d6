use Rattle.std.proofs.Common.{◌≡◌, ◌==◌, ◌<◌, ◌≤◌, ℕ, not, filter, length}
use Rattle.isp_waits.specs.Graphs.{waits_of}
use Rattle.isp_waits.proofs.graph.Waits.ended.Given as goal

abbrev pub invariant-loop-k : goal.invariant-loop-k
invariant-loop-k l =
    ((j : ℕ) → j < l.k → waits_of l.self j ≡ filter (λ b. not (b == l.s)) (waits_of l.fn.self j))
    × ((j : ℕ) → l.k ≤ j → waits_of l.self j ≡ waits_of l.fn.self j)
    × (0 < l.k → length l.self ≡ 17)
