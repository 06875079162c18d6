use Rattle.std.proofs.Common.{◌≡◌, ◌<◌, ℕ, false, length, get_or}
use Rattle.std.specs.List.{list_any}
use Rattle.isp_waits.specs.Graphs.{waits_of}
use Rattle.isp_waits.proofs.graph.Waits.before.Given as goal

abbrev pub invariant-loop-v : goal.invariant-loop-v
invariant-loop-v l =
    ((k : ℕ) → k < l.v → get_or l.found k false ≡ list_any (λ b. get_or l.level b false) (waits_of l.self k))
    × (0 < l.v → length l.self ≡ 17) × (length l.found ≡ 17)
